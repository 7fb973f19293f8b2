use Rattle.std.proofs.Common.{◌≤◌}
use Rattle.audit_log.proofs.Prelude.{AllWithin, DoneIn}
use Rattle.audit_log.proofs.index.Index.settled.Given as goal

abbrev pub invariant-loop-at : goal.invariant-loop-at
invariant-loop-at l = record {
  within : l.at ≤ l.end;
  done : AllWithin (DoneIn l.of) l.recoveries l.at l.end;
}

abbrev pub decreases-loop-at : goal.decreases-loop-at
decreases-loop-at l = l.at
