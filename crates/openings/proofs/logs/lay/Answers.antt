use Rattle.std.proofs.Common.{◌≡◌, ◌+◌, ◌<◌, ◌∷◌, ℕ, ap, arith, length, drop, get_or, subst, ◌∙◌}
use Rattle.openings.proofs.Prelude.{Txn, drop_more}
use Rattle.openings.proofs.Laid.{Lays, Lays-more, Lays-all, all_flushed, txns-count, txns-more, txns-all}
use Rattle.openings.proofs.logs.lay.Goals as goal

pub push_txn-requires-clause-room : goal.push_txn-requires-clause-room
push_txn-requires-clause-room c =
    let inv = c.loop-count.invariant in
    let same = ap length c.flush_at-next.ensures.txns in
    let laid = txns-count c.args.history.now c.args.log.now.txns c.loop-count.log.txns c.loop-count.count c.loop-count-test.true inv.txns in
    omega (arith, same, laid, inv.room, c.requires.room, c.loop-count-test.true, c.flush_at-next.ensures.room)

pub loop-count-preserved : goal.loop-count-preserved
loop-count-preserved c =
    let k = c.loop-count.count in
    let inv = c.loop-count.invariant in
    let within : k < length c.args.history.now = c.loop-count-test.true in
    let d : Txn = record { origin = record { 0 = 0 }; seq = 0; size = 0 } in
    let t : Txn = get_or c.args.history.now k d in
    let here : drop k c.args.history.now ≡ t ∷ drop (k + 1) c.args.history.now = drop_more c.args.history.now k d within in
    rw c.push_txn.ensures record {
      lays =
          Lays-more c.args.flushes.now c.args.history.now c.loop-count.next c.flush_at-next.result k c.args.log.now.log c.loop-count.log.log c.flush_at-next.new.log.log t here inv.lays
          c.flush_at-next.ensures.log c.flush_at-next.ensures.behind c.flush_at-next.ensures.next c.flush_at-next.ensures.rises;
      txns = txns-more c.args.history.now c.args.log.now.txns c.loop-count.log.txns c.flush_at-next.new.log.txns k d within inv.txns c.flush_at-next.ensures.txns;
      flushes = omega (arith, c.flush_at-next.ensures.flushes, inv.flushes);
      room = c.flush_at-next.ensures.room ∙ inv.room;
    }

pub returns-clause-log : goal.returns-clause-log
returns-clause-log c =
    let end : c.loop-count.count ≡ length c.args.history.now = omega (arith, c.loop-count-test.false, c.loop-count.auto.count-end) in
    Lays-all c.args.flushes.now c.args.history.now c.loop-count.next c.args.log.now.log c.loop-count.log.log c.flush_at.new.log.log
    (subst (λ (n : ℕ). Lays c.args.flushes.now c.args.history.now c.loop-count.next n c.args.log.now.log c.loop-count.log.log) end c.loop-count.invariant.lays) c.flush_at.ensures.log

pub returns-clause-txns : goal.returns-clause-txns
returns-clause-txns c =
    let end : c.loop-count.count ≡ length c.args.history.now = omega (arith, c.loop-count-test.false, c.loop-count.auto.count-end) in
    c.flush_at.ensures.txns ∙ txns-all c.args.history.now c.args.log.now.txns c.loop-count.log.txns c.loop-count.count end c.loop-count.invariant.txns

pub returns-clause-flushes : goal.returns-clause-flushes
returns-clause-flushes c = λ all.
    let done = all_flushed c.args.flushes.now (length c.args.history.now) c.flush_at.result c.flush_at.ensures.next c.flush_at.ensures.rises all in
    omega (arith, c.flush_at.ensures.flushes, c.loop-count.invariant.flushes, done)
