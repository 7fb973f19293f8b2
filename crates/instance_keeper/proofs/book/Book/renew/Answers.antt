use Rattle.instance_keeper.proofs.Books.{renewal_kept, renewal_gives}
use Rattle.instance_keeper.proofs.book.Book.renew.Goals as goal

pub invariant_of-self : goal.invariant_of-self
invariant_of-self c = (c.renew_at.ensures.keys, renewal_kept _ _ c.args.o _ c.self.view_is c.self.invariant.1 c.requires c.renew_at.ensures.values)

pub returns : goal.returns
returns c = renewal_gives _ _ c.args.o _ c.self.view_is c.renew_at.ensures.values
