-- Listed histories: how many transactions they have, and which.
use Rattle.openings.proofs.Joined.{length-joined_by}
use Rattle.openings.proofs.Sizes.{length-singles}
use Rattle.std.proofs.Common.{◌≡◌, ℕ, ◌+◌, ◌<◌, ◌≤◌, List, [], ◌∷◌, ◌++◌, length, replicate, take, refl, sym, subst, inl, inr, Some, All, arith, slice_get}
use Rattle.openings.proofs.Prelude.{All-append, All-head, All-nil, All-replicate, All-tail, IsPart, Part, ServerNo, Txn, count_own, joined_by}
use Rattle.openings.proofs.Prelude.{listed_history, next_txn, singles, slice_get_within, take-append-le, take_at, transactions}
use Rattle.openings.proofs.Fronts.{slice_get-snoc_cases}

-- lengths

-- a listed history has as many transactions as its parts
pub length-listed_history : (ps : List Part) → length (listed_history ps) ≡ transactions ps
length-listed_history ps = omega (arith, length-joined_by [] (singles ps), length-singles ps)

-- numbers

-- the number of each transaction is one more than the count of its origin's before it
abbrev pub IsNumbered : List Txn → Type 0
IsNumbered history = (k : ℕ) (t : Txn) → slice_get history k ≡ Some t → t.seq ≡ count_own t.origin.0 (take k history) + 1

IsNumbered-next : (done : List Txn) (x : ServerNo × ℕ) → IsNumbered done → IsNumbered (done ++ next_txn done x ∷ [])
IsNumbered-next done x numbered k t h =
    elim (slice_get-snoc_cases done (next_txn done x) t k h) [
      | inl old ↦
          let within : k < length done = slice_get_within done k t old in
          rw (take-append-le k done (next_txn done x ∷ []) (omega arith)) (numbered k t old)
      | inr new ↦
          rw (take_at done (next_txn done x ∷ []) k (sym new.0))
          (subst (λ (y : Txn). y.seq ≡ count_own y.origin.0 done + 1) (sym new.1) refl)
    ]

IsNumbered-joined : (done : List Txn) (xs : List (ServerNo × ℕ)) → IsNumbered done → IsNumbered (joined_by done xs)
IsNumbered-joined done [] numbered = numbered
IsNumbered-joined done (x ∷ xs) numbered = IsNumbered-joined (done ++ next_txn done x ∷ []) xs (IsNumbered-next done x numbered)

pub listed_numbered : (ps : List Part) → IsNumbered (listed_history ps)
listed_numbered ps = IsNumbered-joined [] (singles ps) (λ k t h. cc)

-- sizes and origins

-- a transaction of one of so many servers, with a size in its range
pub record IsOf (servers : ℕ) (t : Txn) : Type 0 where
  pub origin : t.origin.0 < servers
  pub some : 1 ≤ t.size
  pub size : t.size ≤ 1000000

record IsSingle (servers : ℕ) (x : ServerNo × ℕ) : Type 0 where
  origin : x.0.0 < servers
  some : 1 ≤ x.1
  size : x.1 ≤ 1000000

IsSingle-parts : (servers : ℕ) (ps : List Part) → All (IsPart servers) ps → All (IsSingle servers) (singles ps)
IsSingle-parts servers [] all = All-nil (IsSingle servers)
IsSingle-parts servers (p ∷ ps) all =
    let part : IsPart servers p = All-head (IsPart servers) p ps all in
    All-append (IsSingle servers) (replicate p.count (p.origin, p.size)) (singles ps)
    (All-replicate (IsSingle servers) p.count (p.origin, p.size) (record { origin = part.origin; some = part.some; size = part.size }))
    (IsSingle-parts servers ps (All-tail (IsPart servers) p ps all))

IsOf-joined : (servers : ℕ) (done : List Txn) (xs : List (ServerNo × ℕ)) → ((k : ℕ) (t : Txn) → slice_get done k ≡ Some t → IsOf servers t) → All (IsSingle servers) xs
    → (k : ℕ) (t : Txn) → slice_get (joined_by done xs) k ≡ Some t → IsOf servers t
IsOf-joined servers done [] old all k t h = old k t h
IsOf-joined servers done (x ∷ xs) old all k t h = IsOf-joined servers (done ++ next_txn done x ∷ []) xs both (All-tail (IsSingle servers) x xs all) k t h
  where
    both : (k : ℕ) (t : Txn) → slice_get (done ++ next_txn done x ∷ []) k ≡ Some t → IsOf servers t
    both k t h =
        elim (slice_get-snoc_cases done (next_txn done x) t k h) [
          | inl before ↦ old k t before
          | inr new ↦
              let single : IsSingle servers x = All-head (IsSingle servers) x xs all in
              subst (λ (y : Txn). IsOf servers y) (sym new.1) (record { origin = single.origin; some = single.some; size = single.size })
        ]

pub listed_of : (servers : ℕ) (ps : List Part) → All (IsPart servers) ps → (k : ℕ) (t : Txn) → slice_get (listed_history ps) k ≡ Some t → IsOf servers t
listed_of servers ps all k t h = IsOf-joined servers [] (singles ps) (λ k t h. cc) (IsSingle-parts servers ps all) k t h
