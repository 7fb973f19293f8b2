use Rattle.std.proofs.Common.{ap, length, arith}
use Rattle.recovery_turns.proofs.Prelude.{marked}
use Rattle.recovery_turns.proofs.Marked.{mapped_vec}
use Rattle.recovery_turns.proofs.changes.mark_all.Goals as goal

pub returns-clause-items : goal.returns-clause-items
returns-clause-items c =
    let same = c.deref_mut-replica-items.ensures.value in
    let past = c.loop-replica-test.false in
    let len = c.deref_mut-replica-items.ensures.len in
    mapped_vec (marked c.args.no) _ c.loop-replica.replica-index c.loop-replica.replica-items c.deref_mut-replica-items.result.now c.args.lost.now.items _ c.loop-replica.invariant same
    (omega (arith, past, ap length same)) (omega (arith, len, ap length same))
