use Rattle.std.proofs.Common.{◌≡◌, ◌<◌, drop, length, ap, subst, arith, count_by}
use Rattle.audit_log.proofs.Prelude.{DoneOf, acknowledged_for}
use Rattle.audit_log.proofs.Stepping.{acked-count, acked-falls, acked-index, acked-init, acked-place, acked-so_far, count-init, New}
use Rattle.audit_log.proofs.Walking.{but-place, changed, end_of, place-within}
use Rattle.audit_log.proofs.walks.acknowledge_all.Goals as goal

pub loop-at-init : goal.loop-at-init
loop-at-init c =
    let xs = c.args.recoveries.now in
    let cluster = c.args.cluster.now in
    record {
      place = but-place (DoneOf cluster) cluster xs (length xs) c.last-at.result (omega arith) c.last-at.ensures;
      so_far = acked-init cluster xs c.last-at.result c.last-at.ensures;
      count = count-init cluster xs c.last-at.result c.last-at.ensures;
      index = c.requires;
    }

pub previous-at-requires-clause-index : goal.previous-at-requires-clause-index
previous-at-requires-clause-index c =
    let xs = c.args.recoveries.now in
    let cluster = c.args.cluster.now in
    let i = c.in-Some.i in
    let within : i < length xs = place-within cluster xs i c.loop-at.at c.in-Some.is c.loop-at.invariant.place in
    let so = subst (λ o. c.loop-at.recoveries ≡ changed (acknowledged_for cluster) (end_of o) xs) c.in-Some.is c.loop-at.invariant.so_far in
    acked-index cluster xs c.loop-at.recoveries i _ c.acknowledge-count.new.recovery c.loop-at.at within so c.acknowledge-count.ensures.after c.args.index.now c.loop-at.invariant.index

pub loop-at-smaller : goal.loop-at-smaller
loop-at-smaller c =
    let xs = c.args.recoveries.now in
    let cluster = c.args.cluster.now in
    let i = c.in-Some.i in
    let within : i < length xs = place-within cluster xs i c.loop-at.at c.in-Some.is c.loop-at.invariant.place in
    let so = subst (λ o. c.loop-at.recoveries ≡ changed (acknowledged_for cluster) (end_of o) xs) c.in-Some.is c.loop-at.invariant.so_far in
    let falls = acked-falls cluster xs c.loop-at.recoveries i _ c.acknowledge-count.new.recovery c.previous-at.result within so c.acknowledge-count.ensures.after c.previous-at.ensures in
    omega (arith, falls, ap end_of c.in-Some.is)

pub loop-at-preserved : goal.loop-at-preserved
loop-at-preserved c =
    let xs = c.args.recoveries.now in
    let ys = c.loop-at.recoveries in
    let cluster = c.args.cluster.now in
    let i = c.in-Some.i in
    let new = c.acknowledge-count.new.recovery in
    let o = c.previous-at.result in
    let within : i < length xs = place-within cluster xs i c.loop-at.at c.in-Some.is c.loop-at.invariant.place in
    let so = subst (λ p. ys ≡ changed (acknowledged_for cluster) (end_of p) xs) c.in-Some.is c.loop-at.invariant.so_far in
    let count = subst (λ p. c.loop-at.count ≡ count_by (New cluster xs) (drop (end_of p) xs)) c.in-Some.is c.loop-at.invariant.count in
    record {
      place = acked-place cluster xs ys i _ new o within so c.acknowledge-count.ensures.after c.previous-at.ensures;
      so_far = acked-so_far cluster xs ys i _ new o within so c.acknowledge-count.ensures.after c.previous-at.ensures;
      count = acked-count cluster xs ys i _ new o within so c.acknowledge-count.ensures.after c.previous-at.ensures c.loop-at.count c.acknowledge-count.result count
          c.acknowledge-count.ensures.count;
      index = acked-index cluster xs ys i _ new o within so c.acknowledge-count.ensures.after c.args.index.now c.loop-at.invariant.index;
    }
