use Rattle.std.proofs.Common.{◌≡◌, ◌+◌, drop}
use Rattle.server_model.proofs.Prelude.{held_len, uuids_in}
use Rattle.server_model.proofs.gtids.held_len.Given as goal

abbrev pub invariant-loop-k : goal.invariant-loop-k
invariant-loop-k l =
    held_len (uuids_in l.servers) l.executed.intervals l.log.txns ≡ l.k + held_len (uuids_in l.servers) l.executed.intervals (drop l.k l.log.txns)
