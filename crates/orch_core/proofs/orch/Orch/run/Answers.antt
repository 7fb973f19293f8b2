use Rattle.std.proofs.Common.{◌≡◌, ◌∙◌, true, Err, ap, subst, arith}
use Rattle.orch_core.proofs.Prelude.{Calls, StepsTo, Turn, cause-fine, cause-later, cause-stays, err_from_is_err_and, kept_by, recorder}
use Rattle.orch_core.proofs.Runs.{Ran-next, cut-at}
use Rattle.orch_core.proofs.orch.Orch.run.Goals as goal

pub loop-t-preserved : goal.loop-t-preserved
loop-t-preserved g c = record {
  ran = Ran-next recorder _ _ _ _ _ _ c.args.turns.now c.loop-t.t-index c.t-item.result (omega arith) c.loop-t.invariant.ran
      (subst (λ (t : Turn). StepsTo recorder (g.K.Keeper.kept c.loop-t.keeper) c.loop-t.self t c.turn.new.self) (c.in_ok-copy.ensures ∙ c.t-item.is) c.in_ok-turn.ensures.ok)
      (subst (λ (t : Turn). g.K.Keeper.kept c.turn.new.keeper ≡ kept_by recorder true (g.K.Keeper.kept c.loop-t.keeper) c.loop-t.self t) (c.in_ok-copy.ensures ∙ c.t-item.is) c.in_ok-turn.ensures.kept);
  later = omega (arith, c.loop-t.invariant.later, c.in_ok-turn.ensures.cause.later);
  servers = c.turn.ensures.servers ∙ c.loop-t.invariant.servers;
  nodes = c.turn.ensures.nodes ∙ c.loop-t.invariant.nodes;
}

pub returns-in_err-turn-clause-err : goal.returns-in_err-turn-clause-err
returns-in_err-turn-clause-err g c =
    let p = err_from_is_err_and c.from_residual-in_err-turn.result c.from_residual-in_err-turn.ensures.1 in
    rw (p.1, p.2)
    (cut-at recorder _ _ _ _ _ _ c.args.turns.now c.loop-t.t-index c.t-item.result c.in_err-turn.field-0.0 (omega arith) c.loop-t.invariant.ran c.in_err-turn.ensures.err c.in_err-turn.ensures.kept
    (λ e. subst (λ (t : Turn). Calls recorder c.loop-t.self t) (c.in_ok-copy.ensures ∙ c.t-item.is) (c.in_err-turn.ensures.calls (ap Err e))))

pub returns-in_err-turn-clause-cause : goal.returns-in_err-turn-clause-cause
returns-in_err-turn-clause-cause g c =
    let p = err_from_is_err_and c.from_residual-in_err-turn.result c.from_residual-in_err-turn.ensures.1 in
    rw (p.1, p.2) (cause-later _ _ _ _ c.loop-t.invariant.later c.in_err-turn.ensures.cause)

pub returns-in_err-copy-clause-cause : goal.returns-in_err-copy-clause-cause
returns-in_err-copy-clause-cause g c =
    let p = err_from_is_err_and c.from_residual.result c.from_residual.ensures.1 in
    rw (p.1, p.2) (cause-stays _ _ c.loop-t.invariant.later)

pub returns-clause-cause : goal.returns-clause-cause
returns-clause-cause g c = cause-fine _ _ _ c.loop-t.invariant.later
