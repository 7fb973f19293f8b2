use Rattle.std.proofs.Common.{◌≡◌, drop, count_by}
use Rattle.audit_log.proofs.Prelude.{IsIndex, acknowledged_for, is_new}
use Rattle.audit_log.proofs.Walking.{changed, end_of, IsPlace}
use Rattle.audit_log.proofs.walks.acknowledge_all.Given as goal

abbrev pub invariant-loop-at : goal.invariant-loop-at
invariant-loop-at l = record {
  place : IsPlace l.cluster l.fn.recoveries l.at;
  so_far : l.recoveries ≡ changed (acknowledged_for l.cluster) (end_of l.at) l.fn.recoveries;
  count : l.count ≡ count_by (is_new l.cluster) (drop (end_of l.at) l.fn.recoveries);
  index : IsIndex l.recoveries l.index;
}

abbrev pub decreases-loop-at : goal.decreases-loop-at
decreases-loop-at l = end_of l.at
