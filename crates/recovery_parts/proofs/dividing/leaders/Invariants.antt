use Rattle.std.proofs.Common.{◌≡◌, take, filter}
use Rattle.recovery_plans.specs.Deciding.{may_lead}
use Rattle.recovery_parts.specs.Grounds.{ground_by}
use Rattle.recovery_parts.proofs.dividing.leaders.Given as goal

abbrev pub invariant-loop-replica : goal.invariant-loop-replica
invariant-loop-replica l = l.leaders.items ≡ filter (may_lead (ground_by l.by)) (take l.replica-index l.list)
