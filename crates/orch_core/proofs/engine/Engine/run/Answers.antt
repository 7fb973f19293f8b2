use Rattle.std.proofs.Common.{◌≡◌, ◌∙◌, true, subst, arith}
use Rattle.orch_core.proofs.Prelude.{StepsTo, Turn, cause-fine, cause-later, engine, err_from_is_err_and, kept_by}
use Rattle.orch_core.proofs.Runs.{Ran-next}
use Rattle.orch_core.proofs.engine.Engine.run.Goals as goal

pub loop-t-preserved : goal.loop-t-preserved
loop-t-preserved g c = record {
  ran = Ran-next engine _ _ _ _ _ _ c.args.turns.now c.loop-t.t-index c.t-item.result (omega arith) c.loop-t.invariant.ran
      (subst (λ (t : Turn). StepsTo engine (g.K.Keeper.kept c.loop-t.keeper) c.loop-t.self t c.turn.new.self) c.t-item.is c.in_ok-turn.ensures.ok)
      (subst (λ (t : Turn). g.K.Keeper.kept c.turn.new.keeper ≡ kept_by engine true (g.K.Keeper.kept c.loop-t.keeper) c.loop-t.self t) c.t-item.is c.in_ok-turn.ensures.kept);
  later = omega (arith, c.loop-t.invariant.later, c.in_ok-turn.ensures.cause.later);
  servers = c.turn.ensures.servers ∙ c.loop-t.invariant.servers;
  nodes = c.turn.ensures.nodes ∙ c.loop-t.invariant.nodes;
}

pub returns-in_err-turn-clause-cause : goal.returns-in_err-turn-clause-cause
returns-in_err-turn-clause-cause g c =
    let p = err_from_is_err_and c.from_residual.result c.from_residual.ensures.1 in
    rw (p.1, p.2) (cause-later _ _ _ _ c.loop-t.invariant.later c.in_err-turn.ensures.cause)

pub returns-clause-cause : goal.returns-clause-cause
returns-clause-cause g c = cause-fine _ _ _ c.loop-t.invariant.later
