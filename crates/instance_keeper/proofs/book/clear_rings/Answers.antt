use Rattle.std.proofs.Common.{ap, length, [], arith}
use Rattle.instance_keeper.proofs.Cleared.{cleared_vec}
use Rattle.instance_keeper.proofs.book.clear_rings.Goals as goal

pub returns : goal.returns
returns c =
    let same = c.deref_mut-ring-items.ensures.value in
    let past = c.loop-ring-test.false in
    let len = c.deref_mut-ring-items.ensures.len in
    cleared_vec [] _ c.loop-ring.ring-index c.loop-ring.ring-items c.deref_mut-ring-items.result.now c.args.rings.now.items _ c.loop-ring.invariant same (omega (arith, past, ap length same)) (omega (arith, len, ap length same))
