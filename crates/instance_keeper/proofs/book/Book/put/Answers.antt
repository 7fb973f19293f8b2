use Rattle.std.proofs.Common.{refl}
use Rattle.instance_keeper.proofs.Books.{put_kept, downtime_set, candidate_set}
use Rattle.instance_keeper.proofs.book.Book.put.Goals as goal

pub invariant_of-self : goal.invariant_of-self
invariant_of-self c = (c.put_at.ensures.keys, put_kept _ _ _ _ _ c.self.view_is c.self.invariant.1 c.requires c.in-Instance.is c.put_at.ensures.values)

pub invariant_of-self-in-Downtime : goal.invariant_of-self-in-Downtime
invariant_of-self-in-Downtime c = (c.self.invariant.0, downtime_set _ _ _ c.self.invariant.1 refl)

pub invariant_of-self-in-Candidate : goal.invariant_of-self-in-Candidate
invariant_of-self-in-Candidate c = (c.self.invariant.0, candidate_set _ _ _ c.self.invariant.1 refl)
