use Rattle.std.proofs.Common.{◌≡◌, ◌<◌, ◌∙◌, length, reverse, ap, subst, arith}
use Rattle.audit_log.proofs.Prelude.{DoneOf}
use Rattle.audit_log.proofs.Stepping.{acking_from, acking-init, acking-step}
use Rattle.audit_log.proofs.Walking.{but-falls, but-place, end_of, place-within}
use Rattle.audit_log.proofs.walks.acking.Goals as goal

pub loop-at-init : goal.loop-at-init
loop-at-init c =
    let xs = c.args.recoveries.now in
    let cluster = c.args.cluster.now in
    record {
      place = but-place (DoneOf cluster) cluster xs (length xs) c.last-at.result (omega arith) c.last-at.ensures;
      list = c.new-list.ensures.items ∙ acking-init cluster xs c.last-at.result c.last-at.ensures;
    }

pub loop-at-smaller : goal.loop-at-smaller
loop-at-smaller c =
    let falls = but-falls (DoneOf c.args.cluster.now) c.args.cluster.now c.args.recoveries.now c.in-Some.i c.previous-at.result c.previous-at.ensures in
    omega (arith, falls, ap end_of c.in-Some.is)

pub loop-at-preserved : goal.loop-at-preserved
loop-at-preserved c =
    let xs = c.args.recoveries.now in
    let cluster = c.args.cluster.now in
    let i = c.in-Some.i in
    let within : i < length xs = place-within cluster xs i c.loop-at.at c.in-Some.is c.loop-at.invariant.place in
    record {
      place = but-place (DoneOf cluster) cluster xs i c.previous-at.result (omega (arith, within)) c.previous-at.ensures;
      list = acking-step cluster xs i c.index-recoveries-i.result c.previous-at.result c.loop-at.list.items c.push_new.new.list.items within c.index-recoveries-i.is c.previous-at.ensures
          (subst (λ o. c.loop-at.list.items ≡ reverse (acking_from cluster xs (end_of o))) c.in-Some.is c.loop-at.invariant.list) c.in_ok-push_new.ensures;
    }
