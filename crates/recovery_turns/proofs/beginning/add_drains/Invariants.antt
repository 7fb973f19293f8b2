use Rattle.std.proofs.Common.{◌≡◌, ◌++◌, map, take}
use Rattle.recovery_turns.proofs.Prelude.task
use Rattle.recovery_turns.proofs.beginning.add_drains.Given as goal

abbrev pub invariant-loop-no : goal.invariant-loop-no
invariant-loop-no l = l.tasks.items ≡ l.initial.tasks.items ++ map task.Draining (take l.no-index l.replicas)
