use Rattle.std.proofs.Common.{◌≡◌, ◌++◌, map, take}
use Rattle.recovery_plans.specs.Deciding.{unfit}
use Rattle.recovery_parts.proofs.dividing.lose_all.Given as goal

abbrev pub invariant-loop-replica : goal.invariant-loop-replica
invariant-loop-replica l = l.lost.items ≡ l.initial.lost.items ++ map (unfit l.world) (take l.replica-index l.list)
