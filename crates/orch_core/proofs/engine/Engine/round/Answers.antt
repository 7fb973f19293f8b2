use Rattle.std.proofs.Common.{[], ◌∷◌, Err, ap, arith}
use Rattle.orch_core.proofs.Prelude.{cause-fine, cause-later, engine, err_from_is_err_and}
use Rattle.orch_core.proofs.Prelude.act
use Rattle.orch_core.proofs.Prelude.turn
use Rattle.orch_core.proofs.Finishing.{Ran-append, cut-behind}
use Rattle.orch_core.proofs.Runs.{Ran-more, Ran-nil, cut-at}
use Rattle.orch_core.proofs.engine.Engine.round.Goals as goal

pub returns-in_err-reply-clause-err : goal.returns-in_err-reply-clause-err
returns-in_err-reply-clause-err g c =
    let p = err_from_is_err_and c.from_residual.result c.from_residual.ensures.1 in
    rw (p.1, p.2)
    (cut-at engine _ _ _ _ _ _ (turn.Act (act.Job c.args.job) ∷ c.args.others.now) 0 (turn.Act (act.Job c.args.job)) c.in_err-reply.field-0.0 (omega arith) (Ran-nil engine _ _) c.in_err-reply.ensures.err c.in_err-reply.ensures.kept
    (λ e. c.in_err-reply.ensures.calls (ap Err e)))

pub returns-in_err-run-clause-err : goal.returns-in_err-run-clause-err
returns-in_err-run-clause-err g c =
    let p = err_from_is_err_and c.from_residual-in_err-run.result c.from_residual-in_err-run.ensures.1 in
    rw (p.1, p.2)
    (cut-behind engine _ _ _ _ _ _ (turn.Act (act.Job c.args.job) ∷ []) c.args.others.now _ (Ran-more engine _ _ _ _ _ _ [] (turn.Act (act.Job c.args.job)) (Ran-nil engine _ _) c.in_ok-reply.ensures.ok c.in_ok-reply.ensures.kept) c.in_err-run.ensures.err)

pub returns-clause-ok : goal.returns-clause-ok
returns-clause-ok g c =
    Ran-append engine _ _ _ _ _ _ (turn.Act (act.Job c.args.job) ∷ []) c.args.others.now (Ran-more engine _ _ _ _ _ _ [] (turn.Act (act.Job c.args.job)) (Ran-nil engine _ _) c.in_ok-reply.ensures.ok c.in_ok-reply.ensures.kept) c.in_ok-run.ensures.ok

pub returns-in_err-run-clause-cause : goal.returns-in_err-run-clause-cause
returns-in_err-run-clause-cause g c =
    let p = err_from_is_err_and c.from_residual-in_err-run.result c.from_residual-in_err-run.ensures.1 in
    rw (p.1, p.2) (cause-later _ _ _ _ c.in_ok-reply.ensures.cause.later c.in_err-run.ensures.cause)

pub returns-clause-cause : goal.returns-clause-cause
returns-clause-cause g c =
    let first = c.in_ok-reply.ensures.cause.later in
    let second = c.in_ok-run.ensures.cause.later in
    cause-fine _ _ _ (omega (arith, first, second))
