use Rattle.std.proofs.Common.{◌≡◌, map, take}
use Rattle.recovery_turns.proofs.Prelude.{but}
use Rattle.recovery_turns.proofs.Prelude.task
use Rattle.recovery_turns.proofs.beginning.trails.Given as goal

abbrev pub invariant-loop-no : goal.invariant-loop-no
invariant-loop-no l = l.tasks.items ≡ map task.Trailing (but (take l.no-index l.replicas) l.lead)
