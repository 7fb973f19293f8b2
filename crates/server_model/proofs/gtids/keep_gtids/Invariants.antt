use Rattle.std.proofs.Common.{◌≡◌, slice_range}
use Rattle.server_model.proofs.Prelude.{uuids_in, with_gtids}
use Rattle.server_model.proofs.gtids.keep_gtids.Given as goal

abbrev pub invariant-loop-k : goal.invariant-loop-k
invariant-loop-k l =
    l.kept ≡ record { intervals = with_gtids (uuids_in l.servers) l.initial.kept.intervals (slice_range l.log.txns l.from l.k); room = l.initial.kept.room }
