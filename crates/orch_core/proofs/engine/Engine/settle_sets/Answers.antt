use Rattle.std.proofs.Common.{sym, subst}
use Rattle.orch_core.proofs.Prelude.{IsState, World, state_of}
use Rattle.orch_core.proofs.engine.Engine.settle_sets.Goals as goal

pub invariant_of-self : goal.invariant_of-self
invariant_of-self c = subst (λ (w : World). IsState (record (state_of c.self.inside) { world = w })) (sym c.settle.ensures) c.self.invariant
