use Rattle.std.proofs.Common.{◌≡◌, ◌+◌, ◌++◌, take}
use Rattle.openings.proofs.Laid.{Lays}
use Rattle.openings.proofs.logs.lay.Given as goal

abbrev pub invariant-loop-count : goal.invariant-loop-count
invariant-loop-count l = record {
  lays : Lays l.flushes l.history l.next l.count l.fn.log.log l.log.log;
  txns : l.log.txns ≡ l.fn.log.txns ++ take l.count l.history;
  flushes : l.log.flushes + l.next ≡ l.fn.log.flushes;
  room : l.log.room ≡ l.fn.log.room;
}
