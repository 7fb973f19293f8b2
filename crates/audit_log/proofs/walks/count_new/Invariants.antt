use Rattle.std.proofs.Common.{◌≡◌, drop, count_by}
use Rattle.audit_log.proofs.Prelude.{is_new}
use Rattle.audit_log.proofs.Walking.{end_of, IsPlace}
use Rattle.audit_log.proofs.walks.count_new.Given as goal

abbrev pub invariant-loop-at : goal.invariant-loop-at
invariant-loop-at l = record {
  place : IsPlace l.cluster l.recoveries l.at;
  count : l.count ≡ count_by (is_new l.cluster) (drop (end_of l.at) l.recoveries);
}

abbrev pub decreases-loop-at : goal.decreases-loop-at
decreases-loop-at l = end_of l.at
