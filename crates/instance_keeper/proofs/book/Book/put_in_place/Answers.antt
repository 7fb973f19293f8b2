use Rattle.instance_keeper.proofs.Books.{put_kept}
use Rattle.instance_keeper.proofs.book.Book.put_in_place.Goals as goal

pub invariant_of-self : goal.invariant_of-self
invariant_of-self c = (c.set_place.ensures.keys, put_kept _ _ _ _ _ c.self.view_is c.self.invariant.1 c.requires c.in-Instance.is c.set_place.ensures.values)
