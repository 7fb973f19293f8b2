use Rattle.std.proofs.Common.{length, ◌&&◌}
use Rattle.audit_log.proofs.Prelude.{AllWithin, is_blocking, is_of}
use Rattle.audit_log.proofs.Walking.{end_of, Fails, IsPlace}
use Rattle.audit_log.proofs.walks.blocking_at.Given as goal

abbrev pub invariant-loop-at : goal.invariant-loop-at
invariant-loop-at l = record {
  place : IsPlace l.cluster l.recoveries l.at;
  none : AllWithin (Fails (λ r. is_of l.cluster r && is_blocking l.now.0 r)) l.recoveries (end_of l.at) (length l.recoveries);
}

abbrev pub decreases-loop-at : goal.decreases-loop-at
decreases-loop-at l = end_of l.at
