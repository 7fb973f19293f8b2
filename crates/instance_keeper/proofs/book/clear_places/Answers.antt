use Rattle.std.proofs.Common.{ap, length, None, arith}
use Rattle.instance_keeper.proofs.Cleared.{cleared_vec}
use Rattle.instance_keeper.proofs.book.clear_places.Goals as goal

pub returns : goal.returns
returns g c =
    let same = c.deref_mut-place-items.ensures.value in
    let past = c.loop-place-test.false in
    let len = c.deref_mut-place-items.ensures.len in
    cleared_vec None _ c.loop-place.place-index c.loop-place.place-items c.deref_mut-place-items.result.now c.args.places.now.items _ c.loop-place.invariant same (omega (arith, past, ap length same)) (omega (arith, len, ap length same))
