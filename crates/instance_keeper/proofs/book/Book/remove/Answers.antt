use Rattle.std.proofs.Common.{List, ap, slice_set}
use Rattle.instance_keeper.proofs.Prelude.{Bridge}
use Rattle.instance_keeper.proofs.Books.{none_ringed, downtime_set, candidate_set}
use Rattle.instance_keeper.proofs.book.Book.remove.Goals as goal

pub invariant_of-self : goal.invariant_of-self
invariant_of-self c =
    let ringed = ap (λ (r : List Bridge). slice_set c.self.inside.rings.items c.in-Instance-Server.no.0 r) c.clear.ensures in
    (c.put_at.ensures.keys, none_ringed _ _ _ _ c.self.invariant.1 c.put_at.ensures.values ringed)

pub invariant_of-self-in-Server-this : goal.invariant_of-self-in-Server-this
invariant_of-self-in-Server-this c = (c.self.invariant.0, downtime_set _ _ _ c.self.invariant.1 tt)

pub invariant_of-self-in-Server-this-2 : goal.invariant_of-self-in-Server-this-2
invariant_of-self-in-Server-this-2 c = (c.self.invariant.0, candidate_set _ _ _ c.self.invariant.1 tt)
