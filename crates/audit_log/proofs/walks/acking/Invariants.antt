use Rattle.std.proofs.Common.{◌≡◌, drop, map, reverse, filter}
use Rattle.audit_log.proofs.Prelude.{acknowledged_for, is_new}
use Rattle.audit_log.proofs.Walking.{end_of, IsPlace}
use Rattle.audit_log.proofs.walks.acking.Given as goal

abbrev pub invariant-loop-at : goal.invariant-loop-at
invariant-loop-at l = record {
  place : IsPlace l.cluster l.recoveries l.at;
  list : l.list.items ≡ reverse (map (acknowledged_for l.cluster) (filter (is_new l.cluster) (drop (end_of l.at) l.recoveries)));
}

abbrev pub decreases-loop-at : goal.decreases-loop-at
decreases-loop-at l = end_of l.at
