use Rattle.std.proofs.Common.{◌≡◌, ◌++◌, take}
use Rattle.recovery_plans.specs.Deciding.{losses_in, lot_by, moves_in}
use Rattle.recovery_parts.specs.Grounds.{ground_by}
use Rattle.recovery_parts.proofs.dividing.divide.Given as goal

abbrev pub invariant-loop-replica : goal.invariant-loop-replica
invariant-loop-replica l = record {
  moves : l.moves.items ≡ moves_in (lot_by l.means (ground_by l.by) l.failed l.chosen) (take l.replica-index l.others);
  lost : l.lost.items ≡ l.initial.lost.items ++ losses_in (lot_by l.means (ground_by l.by) l.failed l.chosen) (take l.replica-index l.others);
}
