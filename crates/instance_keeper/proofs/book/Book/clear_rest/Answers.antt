use Rattle.std.proofs.Common.{◌∙◌, ℕ, List, Option, [], None, length, ap}
use Rattle.instance_keeper.proofs.Prelude.{Bridge, length-replicate}
use Rattle.instance_keeper.proofs.Reloads.{rest_cleared}
use Rattle.instance_keeper.proofs.book.Book.clear_rest.Goals as goal

pub invariant_of-self : goal.invariant_of-self
invariant_of-self c = (
  c.self.invariant.0,
  rest_cleared _ _ _ _ _ c.self.invariant.1 c.clear_places.ensures c.clear_places-2.ensures
      (ap length c.clear_rings.ensures ∙ length-replicate {A = List Bridge} _ [])
      (ap length c.clear_places-3.ensures ∙ length-replicate {A = Option ℕ} _ None),
)
