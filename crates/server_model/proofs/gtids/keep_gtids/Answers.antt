use Rattle.std.proofs.Common.{◌≡◌, ◌+◌, List, Some, arith, ap, sym, ◌∙◌, slice_get, slice_range}
use Rattle.server_model.proofs.Prelude.{Interval, Reserved, uuids_in, with_gtids, with_pair}
use Rattle.server_model.proofs.ExecutedSets.{length-range, with_gtids-push}
use Rattle.server_model.proofs.Lists.{range-more}
use Rattle.server_model.proofs.gtids.keep_gtids.Goals as goal

pub add-requires-clause-room : goal.add-requires-clause-room
add-requires-clause-room c =
    let few = length-range (uuids_in c.args.servers.now) c.args.kept.now.intervals c.args.log.now.txns c.args.from c.loop-k.k in
    let fits = c.requires.room c.if-gtid.true in
    rw c.loop-k.invariant (omega (arith, few, fits, c.loop-k-test.true, c.loop-k.auto.k))

pub loop-k-preserved : goal.loop-k-preserved
loop-k-preserved c =
    let uuids = uuids_in c.args.servers.now in
    let set = c.args.kept.now.intervals in
    let txns = c.args.log.now.txns in
    let k = c.loop-k.k in
    let t = c.unwrap-t.result in
    let at : slice_get txns k ≡ Some t = sym c.txn.ensures ∙ c.unwrap-t.ensures in
    let one : with_pair c.uuid_of.result t.seq (with_gtids uuids set (slice_range txns c.args.from k)) ≡ with_gtids uuids set (slice_range txns c.args.from (k + 1)) =
    ap (λ u. with_pair u t.seq (with_gtids uuids set (slice_range txns c.args.from k))) c.uuid_of.ensures
    ∙ sym (with_gtids-push uuids set (slice_range txns c.args.from k) t) ∙ ap (with_gtids uuids set) (sym (range-more txns c.args.from k t c.loop-k.auto.k at)) in
    c.add.ensures ∙ ap (λ (r : Reserved). record { intervals = with_pair c.uuid_of.result t.seq r.intervals; room = r.room }) c.loop-k.invariant
    ∙ ap (λ (xs : List Interval). record { intervals = xs; room = c.args.kept.now.room }) one
