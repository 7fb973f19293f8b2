use Rattle.instance_keeper.proofs.Books.{put_kept}
use Rattle.instance_keeper.proofs.book.Book.put_by_place.Goals as goal

pub invariant_of-self : goal.invariant_of-self
invariant_of-self c = (c.swap_in.ensures.keys, put_kept _ _ _ _ _ c.self.view_is c.self.invariant.1 c.requires c.in-Instance.is (c.swap_in.ensures.swapped c.if-swap_in.true))
