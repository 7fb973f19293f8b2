use Rattle.std.proofs.Common.{◌≡◌, vec_capacity}
use Rattle.openings.proofs.Joined.{Adds}
use Rattle.openings.proofs.histories.add_part.Given as goal

abbrev pub invariant-loop : goal.invariant-loop
invariant-loop l =
    Adds (l.part.origin, l.part.size) l.taken l.counter l.fn.history.items l.history.items l.counts × (vec_capacity l.history ≡ vec_capacity l.fn.history)
