use Rattle.std.proofs.Common.{◌≡◌, ◌<◌, drop, length, ap, subst, arith, count_by}
use Rattle.audit_log.proofs.Prelude.{DoneOf}
use Rattle.audit_log.proofs.Stepping.{count-fits, count-init, count-step, New}
use Rattle.audit_log.proofs.Walking.{but-falls, but-place, end_of, place-within}
use Rattle.audit_log.proofs.walks.count_new.Goals as goal

pub loop-at-init : goal.loop-at-init
loop-at-init c =
    let xs = c.args.recoveries.now in
    let cluster = c.args.cluster.now in
    record {
      place = but-place (DoneOf cluster) cluster xs (length xs) c.last-at.result (omega arith) c.last-at.ensures;
      count = count-init cluster xs c.last-at.result c.last-at.ensures;
    }

pub loop-at-smaller : goal.loop-at-smaller
loop-at-smaller c =
    let falls = but-falls (DoneOf c.args.cluster.now) c.args.cluster.now c.args.recoveries.now c.in-Some.i c.previous-at.result c.previous-at.ensures in
    omega (arith, falls, ap end_of c.in-Some.is)

pub overflow_add-count : goal.overflow_add-count
overflow_add-count c =
    let xs = c.args.recoveries.now in
    let cluster = c.args.cluster.now in
    let i = c.in-Some.i in
    let within : i < length xs = place-within cluster xs i c.loop-at.at c.in-Some.is c.loop-at.invariant.place in
    let so = subst (λ o. c.loop-at.count ≡ count_by (New cluster xs) (drop (end_of o) xs)) c.in-Some.is c.loop-at.invariant.count in
    let few = count-fits cluster xs i c.loop-at.count c.counted-count.result c.index-recoveries-i.result within c.index-recoveries-i.is so c.counted-count.ensures in
    omega (arith, few)

pub loop-at-preserved : goal.loop-at-preserved
loop-at-preserved c =
    let xs = c.args.recoveries.now in
    let cluster = c.args.cluster.now in
    let i = c.in-Some.i in
    let within : i < length xs = place-within cluster xs i c.loop-at.at c.in-Some.is c.loop-at.invariant.place in
    record {
      place = but-place (DoneOf cluster) cluster xs i c.previous-at.result (omega (arith, within)) c.previous-at.ensures;
      count = count-step cluster xs i c.loop-at.count c.counted-count.result c.index-recoveries-i.result c.previous-at.result within c.index-recoveries-i.is c.previous-at.ensures
          (subst (λ o. c.loop-at.count ≡ count_by (New cluster xs) (drop (end_of o) xs)) c.in-Some.is c.loop-at.invariant.count) c.counted-count.ensures;
    }
