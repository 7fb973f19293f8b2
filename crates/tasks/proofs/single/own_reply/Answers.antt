use Rattle.std.proofs.Common.{◌∙◌, ap, Option, arith}
use Rattle.tasks.proofs.Prelude.{Reply, cause-fine, cause-later, cause-stays, err_from_is_err_and, point, unwrap_or}
use Rattle.tasks.proofs.Prelude.answered
use Rattle.tasks.proofs.Own.{claim_stops_by, ends_by, own_stops_by, own_wanting_by}
use Rattle.tasks.proofs.single.own_reply.Goals as goal

pub returns-in_err-claimed-clause-err : goal.returns-in_err-claimed-clause-err
returns-in_err-claimed-clause-err g c =
    let p = err_from_is_err_and c.from_residual.result c.from_residual.ensures.1 in
    rw (p.1, p.2)
    (claim_stops_by c.args.own.now (point (g.K.Keeper.kept c.args.keeper.now) c.args.engine.now) (g.K.Keeper.kept c.take_one.new.keeper) c.take_one.new.engine _ c.claim_ahead-claim.result c.claim_ahead-claim.ensures.claim c.in_err-claimed.ensures.err)

pub returns-in_err-own-clause-err : goal.returns-in_err-own-clause-err
returns-in_err-own-clause-err g c =
    let p = err_from_is_err_and c.from_residual-in_err-own.result c.from_residual-in_err-own.ensures.1 in
    rw (p.1, p.2)
    (own_wanting_by c.args.own.now (point (g.K.Keeper.kept c.args.keeper.now) c.args.engine.now) (point (g.K.Keeper.kept c.take_one.new.keeper) c.take_one.new.engine) c.claim_ahead-claim.result c.claim_ahead-claim.ensures.claim c.in_ok-claimed.ensures.ok)

pub returns-in_err-told-clause-err : goal.returns-in_err-told-clause-err
returns-in_err-told-clause-err g c =
    let p = err_from_is_err_and c.from_residual-in_err-told.result c.from_residual-in_err-told.ensures.1 in
    rw (p.1, p.2)
    (own_stops_by c.args.own.now (point (g.K.Keeper.kept c.args.keeper.now) c.args.engine.now) (point (g.K.Keeper.kept c.take_one.new.keeper) c.take_one.new.engine) (g.K.Keeper.kept c.take_one-2.new.keeper) c.take_one-2.new.engine _
    c.claim_ahead-claim.result c.in_ok-own.own c.claim_ahead-claim.ensures.claim c.in_ok-own.ensures.own c.in_ok-claimed.ensures.ok c.in_err-told.ensures.err)

pub returns-clause-ok : goal.returns-clause-ok
returns-clause-ok g c =
    ends_by c.args.own.now (point (g.K.Keeper.kept c.args.keeper.now) c.args.engine.now) (point (g.K.Keeper.kept c.take_one.new.keeper) c.take_one.new.engine) (point (g.K.Keeper.kept c.take_one-2.new.keeper) c.take_one-2.new.engine)
    c.claim_ahead-claim.result c.in_ok-own.own c.in_ok-claimed.claimed c.in_ok-told.told c.unwrap_or.result c.claim_ahead-claim.ensures.claim c.in_ok-own.ensures.own c.in_ok-claimed.ensures.ok c.in_ok-claimed.ensures.reply c.in_ok-told.ensures.ok c.in_ok-told.ensures.reply
    (c.unwrap_or.ensures ∙ ap (λ (o : Option Reply). unwrap_or o answered.Lapsed) c.or.ensures)

pub returns-in_err-own-clause-cause : goal.returns-in_err-own-clause-cause
returns-in_err-own-clause-cause g c =
    let p = err_from_is_err_and c.from_residual-in_err-own.result c.from_residual-in_err-own.ensures.1 in
    rw (p.1, p.2) (cause-stays _ _ c.in_ok-claimed.ensures.cause.later)

pub returns-in_err-told-clause-cause : goal.returns-in_err-told-clause-cause
returns-in_err-told-clause-cause g c =
    let p = err_from_is_err_and c.from_residual-in_err-told.result c.from_residual-in_err-told.ensures.1 in
    rw (p.1, p.2) (cause-later _ _ _ _ c.in_ok-claimed.ensures.cause.later c.in_err-told.ensures.cause)

pub returns-clause-cause : goal.returns-clause-cause
returns-clause-cause g c =
    let first = c.in_ok-claimed.ensures.cause.later in
    let second = c.in_ok-told.ensures.cause.later in
    cause-fine _ _ _ (omega (arith, first, second))
