-- Each server that was read before an attempt still is.
use Rattle.std.proofs.Common.{◌≡◌, ℕ, Bool, true, false, cond, List, refl, ◌∙◌, ap, Some, ◌==◌, is_some}
use Rattle.recovery_laws.proofs.Prelude.{Attempt, Attempts, Deed, Ends, Goes, Job, Moment, Op, Position, ServerNo, Sight, Stops, World, attempts}
use Rattle.recovery_laws.proofs.Prelude.{by_deed, position_of, seen-at, seen_of, with_seen}
use Rattle.recovery_laws.proofs.Prelude.doing

-- each server that was read still is
abbrev pub StaysRead : List Sight → List Sight → Type 0
StaysRead xs ys = (n : ℕ) → is_some (seen_of xs n) ≡ true → is_some (seen_of ys n) ≡ true

pub saw-read : (xs : List Sight) (n : ServerNo) (s : Position) → StaysRead xs (with_seen xs n s)
saw-read xs n s k h = ap is_some (seen-at xs n s k) ∙ go (n.0 == k)
  where
    go : (b : Bool) → is_some (cond b (Some s) (seen_of xs k)) ≡ true
    go true = refl
    go false = h

-- after an attempt that goes on
abbrev pub Reads : Job → Attempt → Type 0
Reads j (Goes o es k) = StaysRead j.seen k.seen
Reads j (Stops c o) = Unit {0}
Reads j (Ends lines) = Unit {0}

module _ (j : Job) (rest : List Op) where
  same : StaysRead j.seen j.seen
  same n h = h

  reads-by : (w : World) (read : ℕ) (now : Moment) (d : Deed) (a : Attempt) → Attempts w read now j rest d a → Reads j a
  reads-by w read now d a (doing.Misses n from c why) = tt
  reads-by w read now d a (doing.Fails x c why) = tt
  reads-by w read now d a (doing.Reads n from s seen is) = saw-read j.seen n (position_of s)
  reads-by w read now d a (doing.Waits n x s is seen short more) = saw-read j.seen n (position_of s)
  reads-by w read now d a (doing.Reaches n x s is seen over) = saw-read j.seen n (position_of s)
  reads-by w read now d a (doing.Finishes lines) = tt
  reads-by w read now d a _ = same

  pub deed-reads : (w : World) (read : ℕ) (now : Moment) (d : Deed) → Reads j (by_deed w read now j rest d)
  deed-reads w read now d = reads-by w read now d (by_deed w read now j rest d) (attempts w read now j rest d)
