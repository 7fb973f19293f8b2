-- What servers have executed is numbered, and of servers that are there.
use Rattle.std.proofs.Common.{◌≡◌, ℕ, ◌<◌, List, length, take, refl, Option, Some, None, All, arith, slice_get}
use Rattle.openings.proofs.Prelude.{All-nil, IsListed, IsPart, Opened, ServerInit, Txn, count_at, history_at, listed_history, parts_at, root_of}
use Rattle.openings.proofs.Prelude.{take-take}
use Rattle.openings.proofs.Fronts.{slice_get-take, slice_get-take_within}
use Rattle.openings.proofs.ListedCounts.{IsNumbered, IsOf, listed_numbered, listed_of}

IsNumbered-take : (history : List Txn) (n : ℕ) → IsNumbered history → IsNumbered (take n history)
IsNumbered-take history n numbered k t h =
    let lt : k < n = slice_get-take_within history n k t h in
    rw (take-take k n history (omega arith)) (numbered k t (slice_get-take history n k t h))

-- in what a server has executed the number of each transaction is one more than the count of its origin's before it
pub history_numbered : (servers : List ServerInit) (n : ℕ) → IsNumbered (history_at servers n)
history_numbered servers n =
    let parts = parts_at (slice_get servers (root_of servers n)) in
    IsNumbered-take (listed_history parts) (count_at (slice_get servers n)) (listed_numbered parts)

-- each transaction that a server has executed has a size in its range, and one of the servers as its origin
pub history_of : (o : Opened) → IsListed o → (n k : ℕ) (t : Txn) → slice_get (history_at o.servers n) k ≡ Some t → IsOf (length o.servers) t
history_of o listed n k t h =
    let at = slice_get o.servers (root_of o.servers n) in
    listed_of (length o.servers) (parts_at at) (by at refl) k t (slice_get-take (listed_history (parts_at at)) (count_at (slice_get o.servers n)) k t h)
  where
    by : (x : Option ServerInit) → slice_get o.servers (root_of o.servers n) ≡ x → All (IsPart (length o.servers)) (parts_at x)
    by None at = All-nil (IsPart (length o.servers))
    by (Some i) at = (listed.each (root_of o.servers n) i at).parts
