use Rattle.std.proofs.Common.{◌≡◌, take}
use Rattle.recovery_plans.specs.Deciding.{without_stopped}
use Rattle.recovery_parts.proofs.dividing.without.Given as goal

abbrev pub invariant-loop-replica : goal.invariant-loop-replica
invariant-loop-replica l = l.others.items ≡ without_stopped (take l.replica-index l.list) l.no
