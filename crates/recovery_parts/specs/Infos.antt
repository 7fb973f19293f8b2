-- What the code's table of stages has.
use Rattle.std.specs.Prelude.{[], ◌∷◌}
use Rattle.recovery_plans.specs.Operations.declared.op.Crossing.TheVariants as cross
use Rattle.recovery_plans.specs.Operations.declared.op.Op.TheVariants as op
use Rattle.recovery_plans.specs.declared.stage.Stage.TheVariants as stage
use Rattle.recovery_plans.specs.Table as table
use Rattle.recovery_parts.specs.declared.table.Back.{Back}
use Rattle.recovery_parts.specs.declared.table.Back.TheVariants as back
use Rattle.recovery_parts.specs.declared.table.Bar.{Bar}
use Rattle.recovery_parts.specs.declared.table.Bar.TheVariants as bar
use Rattle.recovery_parts.specs.declared.table.Failing.{Failing}
use Rattle.recovery_parts.specs.declared.table.Failing.TheVariants as failing
use Rattle.recovery_parts.specs.declared.table.Made.{Made}
use Rattle.recovery_parts.specs.declared.table.Made.TheVariants as made

abbrev pub bar_told : Bar → table.Bar
bar_told bar.Never = table.Never
bar_told bar.Reached = table.Reached
bar_told (bar.Sourced m) = table.Sourced m

abbrev pub back_told : Back → table.Back
back_told back.Nowhere = table.Nowhere
back_told back.Writes = table.Writes
back_told (back.Whole m d) = table.Whole m d

abbrev pub failing_told : Failing → table.Failing
failing_told failing.All = table.All
failing_told failing.Passes = table.Passes
failing_told (failing.Drains n) = table.Drains n
failing_told (failing.Moves n by) = table.Moves n by
failing_told (failing.Joins n) = table.Joins n
failing_told (failing.Trails n) = table.Trails n
failing_told (failing.Releases q) = table.Instead (stage.Release q) (op.Start q ∷ [])
failing_told (failing.Returns p q) = table.Instead (stage.Return p q) (op.Cross cross.Back q p ∷ op.Start q ∷ [])

abbrev pub made_told : Made → table.Made
made_told made.Nothing = table.Nothing
made_told (made.Judged n) = table.Judged n
made_told (made.Follows n p) = table.Follows n p
made_told (made.Marked n) = table.Marked n
made_told (made.Gathered d) = table.Gathered d
made_told (made.Swapped p q) = table.Swapped p q
made_told (made.Opened n) = table.Opened n
made_told (made.Met m d) = table.Met m d
made_told (made.Looked n b) = table.Looked n b
made_told (made.Halted n b) = table.Halted n b
made_told (made.Switched m d) = table.Switched m d
