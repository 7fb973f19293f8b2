use Rattle.std.proofs.Common.{◌<◌, length, sym, subst}
use Rattle.orch_core.proofs.Prelude.{State, state_of}
use Rattle.orch_core.proofs.States.{IsState-read}
use Rattle.orch_core.proofs.engine.Engine.read_slot.Goals as goal

pub invariant_of-self : goal.invariant_of-self
invariant_of-self c =
    let server = subst (λ (s : State). c.args.no.0 < length s.world.servers) (sym c.self.view_is) c.requires.server in
    IsState-read (state_of c.self.inside) c.args.poller c.args.no c.in_ok-o.o _ _ _ c.self.invariant server c.in_ok-o.ensures
