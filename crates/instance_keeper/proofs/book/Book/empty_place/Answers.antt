use Rattle.instance_keeper.proofs.Books.{none_kept}
use Rattle.instance_keeper.proofs.book.Book.empty_place.Goals as goal

pub invariant_of-self : goal.invariant_of-self
invariant_of-self c = (c.set_place.ensures.keys, none_kept _ _ _ c.self.invariant.1 c.set_place.ensures.values)
