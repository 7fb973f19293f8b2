use Rattle.std.proofs.Common.{◌≡◌, take}
use Rattle.command_outcomes.specs.Outcomes.{entries_put}
use Rattle.command_outcomes.proofs.recovering.entries_put.Given as goal

abbrev pub invariant-loop-one : goal.invariant-loop-one
invariant-loop-one l = l.changes.items ≡ entries_put (take l.one-index l.begun)
