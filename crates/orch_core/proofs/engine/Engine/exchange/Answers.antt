use Rattle.std.proofs.Common.{length, sym, subst}
use Rattle.orch_core.proofs.Prelude.{IsStep, State, state_of}
use Rattle.orch_core.proofs.States.{IsState-step}
use Rattle.orch_core.proofs.engine.Engine.exchange.Goals as goal

pub invariant_of-self : goal.invariant_of-self
invariant_of-self c =
    let step = subst (λ (s : State). IsStep (length s.world.servers) c.args.x) (sym c.self.view_is) c.requires in
    IsState-step (state_of c.self.inside) c.args.x _ c.self.invariant step c.exchange.ensures.world c.exchange.ensures.servers
