use Rattle.orch_core.proofs.Prelude.{state_of}
use Rattle.orch_core.proofs.Slots.{slot-is}
use Rattle.orch_core.proofs.engine.Engine.poll_store.Goals as goal

pub invariant_of-self : goal.invariant_of-self
invariant_of-self g c = slot-is (state_of c.self.inside) c.args.poller c.store_slot.new.book _ c.store_slot.new.slot c.store_slot.result c.self.invariant c.index_mut.ensures.value c.store_slot.ensures.book c.store_slot.ensures.emptied c.store_slot.ensures.err c.store_slot.ensures.slot
