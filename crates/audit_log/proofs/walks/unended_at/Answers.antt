use Rattle.std.proofs.Common.{◌≡◌, ◌<◌, ◌∙◌, cond, Some, length, sym, ap, subst, arith}
use Rattle.audit_log.proofs.Prelude.{DoneOf, IsClear, Recovery}
use Rattle.audit_log.proofs.Linking.{but-clear}
use Rattle.audit_log.proofs.Stepping.{first-init, first-step, Open}
use Rattle.audit_log.proofs.Walking.{but-falls, but-place, end_of, FirstFrom, place-of, place-within}
use Rattle.audit_log.proofs.walks.unended_at.Goals as goal

pub loop-at-init : goal.loop-at-init
loop-at-init c =
    let xs = c.args.recoveries.now in
    let cluster = c.args.cluster.now in
    record {
      place = but-place (DoneOf cluster) cluster xs (length xs) c.last-at.result (omega arith) c.last-at.ensures;
      first = first-init cluster c.args.now.0 xs c.last-at.result (but-clear cluster c.args.now.0 xs (length xs) c.last-at.result c.last-at.ensures);
    }

pub loop-at-smaller : goal.loop-at-smaller
loop-at-smaller c =
    let falls = but-falls (IsClear c.args.cluster.now c.args.now.0) c.args.cluster.now c.args.recoveries.now c.in-Some.i c.earlier-at.result c.earlier-at.ensures in
    omega (arith, falls, ap end_of c.in-Some.is)

pub loop-at-preserved : goal.loop-at-preserved
loop-at-preserved c =
    let xs = c.args.recoveries.now in
    let cluster = c.args.cluster.now in
    let i = c.in-Some.i in
    let within : i < length xs = place-within cluster xs i c.loop-at.at c.in-Some.is c.loop-at.invariant.place in
    let of = place-of cluster xs i c.loop-at.at c.in-Some.is c.loop-at.invariant.place in
    record {
      place = but-place (IsClear cluster c.args.now.0) cluster xs i c.earlier-at.result (omega (arith, within)) c.earlier-at.ensures;
      first = first-step cluster c.args.now.0 xs i c.index-recoveries-i.result c.earlier-at.result c.loop-at.first c.noted-first.result within c.index-recoveries-i.is
          (subst (λ (r : Recovery). r.cluster ≡ cluster) (sym c.index-recoveries-i.is) (of c.index-recoveries-i.result)) c.earlier-at.ensures
          (subst (λ o. FirstFrom (Open cluster c.args.now.0) xs (end_of o) c.loop-at.first) c.in-Some.is c.loop-at.invariant.first)
          (c.noted-first.ensures ∙ ap (λ b. cond b (Some i) c.loop-at.first) c.is_unended.ensures);
    }
