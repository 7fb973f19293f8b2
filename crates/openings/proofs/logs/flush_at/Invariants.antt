use Rattle.std.proofs.Common.{◌≡◌, ◌+◌, ◌-◌, length}
use Rattle.openings.proofs.Laid.{Flushes}
use Rattle.openings.proofs.logs.flush_at.Given as goal

abbrev pub invariant-loop-at : goal.invariant-loop-at
invariant-loop-at l = record {
  done : Flushes l.flushes l.next l.count l.at l.fn.log.log l.log.log;
  txns : l.log.txns ≡ l.fn.log.txns;
  flushes : l.log.flushes + l.at ≡ l.fn.log.flushes + l.next;
  room : l.log.room ≡ l.fn.log.room;
}

abbrev pub decreases-loop-at : goal.decreases-loop-at
decreases-loop-at l = length l.flushes - l.at
