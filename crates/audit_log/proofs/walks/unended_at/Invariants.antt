use Rattle.std.specs.Prelude.{◌&&◌}
use Rattle.audit_log.proofs.Prelude.{is_of, is_unended}
use Rattle.audit_log.proofs.Walking.{end_of, FirstFrom, IsPlace}
use Rattle.audit_log.proofs.walks.unended_at.Given as goal

abbrev pub invariant-loop-at : goal.invariant-loop-at
invariant-loop-at l = record {
  place : IsPlace l.cluster l.recoveries l.at;
  first : FirstFrom (λ r. is_of l.cluster r && is_unended r) l.recoveries (end_of l.at) l.first;
}

abbrev pub decreases-loop-at : goal.decreases-loop-at
decreases-loop-at l = end_of l.at
