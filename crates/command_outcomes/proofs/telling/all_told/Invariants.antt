use Rattle.std.proofs.Common.{◌≡◌, map}
use Rattle.command_outcomes.specs.HookTelling.{with_told}
use Rattle.command_outcomes.proofs.telling.all_told.Given as goal

abbrev pub invariant-loop-one : goal.invariant-loop-one
invariant-loop-one l = l.told.items ≡ map (with_told l.configuration l.book) l.yielded
