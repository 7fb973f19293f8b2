use Rattle.orch_core.proofs.Prelude.{state_of}
use Rattle.orch_core.proofs.States.{IsState-tick}
use Rattle.orch_core.proofs.engine.Engine.tick.Goals as goal

pub invariant_of-self : goal.invariant_of-self
invariant_of-self c = IsState-tick (state_of c.self.inside) c.args.seconds _ c.self.invariant c.later-self-inside.ensures
