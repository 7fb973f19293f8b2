use Rattle.std.proofs.Common.{◌≡◌, map, take}
use Rattle.recovery_plans.specs.Deciding.{drained_of}
use Rattle.recovery_parts.specs.Grounds.{ground_by}
use Rattle.recovery_parts.proofs.choices.drained_all.Given as goal

abbrev pub invariant-loop-replica : goal.invariant-loop-replica
invariant-loop-replica l = l.all.items ≡ map (drained_of (ground_by l.by) l.failed) (take l.replica-index l.list)
