-- In a listed history each origin's transactions are numbered 1, 2, 3 and so on.
use Rattle.std.proofs.Common.{◌≡◌, ℕ, ◌+◌, ◌<◌, ◌≤◌, ◌⊎◌, inl, inr, Bool, true, false, List, [], ◌∷◌, ◌++◌, take, refl, sym, ap, ◌∙◌, Some, arith, get_or, ◌==◌, ◌||◌, ◌&&◌, nat_le, slice_get}
use Rattle.opening_checks.proofs.Prelude.{IsNumbered, Part, ServerNo, Txn, cases_eq, count_own, count_own-push, eq-eqb, get_or_from_slice_get, holds}
use Rattle.opening_checks.proofs.Prelude.{joined_by, list_any-append, listed_history, nat_tests, ne_eqb, next_txn, same_txn, singles}
use Rattle.opening_checks.proofs.Prelude.{slice_get_within, sum_by-take-le, take-listed, take-take, take_more, tick}

-- one more of the origin's own
pub count_own-next : (history : List Txn) (j : ℕ) (t : Txn) (o : ℕ) → slice_get history j ≡ Some t → count_own o (take (j + 1) history) ≡ count_own o (take j history) + tick (t.origin.0 == o)
count_own-next history j t o h =
    let within = slice_get_within history j t h in
    ap (count_own o) (take_more history j t within) ∙ count_own-push o (take j history) (get_or history j t)
    ∙ ap (λ (u : Txn). count_own o (take j history) + tick (u.origin.0 == o)) (get_or_from_slice_get history j t t h)

-- an earlier transaction of an origin has a smaller number than so many
pub number-below : (history : List Txn) (j at : ℕ) (u : Txn) → IsNumbered history → slice_get history j ≡ Some u → j < at → u.seq ≤ count_own u.origin.0 (take at history)
number-below history j at u numbered h less =
    let seq = numbered j u h in
    let once : tick (u.origin.0 == u.origin.0) ≡ 1 = ap tick (eq-eqb u.origin.0 u.origin.0 refl) in
    let next : count_own u.origin.0 (take (j + 1) history) ≡ count_own u.origin.0 (take j history) + 1 = count_own-next history j u u.origin.0 h ∙ ap (λ n. count_own u.origin.0 (take j history) + n) once in
    let front : take (j + 1) (take at history) ≡ take (j + 1) history = take-take (j + 1) at history (omega arith) in
    let most : count_own u.origin.0 (take (j + 1) (take at history)) ≤ count_own u.origin.0 (take at history) = sum_by-take-le (λ (t : Txn). tick (t.origin.0 == u.origin.0)) (take at history) (j + 1) in
    let same = ap (count_own u.origin.0) front in
    omega arith

-- a transaction with a number is in the history exactly if its number is counted
abbrev HoldsCounted : List Txn → Type 0
HoldsCounted history = (t : Txn) → 1 ≤ t.seq → holds t history ≡ nat_le t.seq (count_own t.origin.0 history)

counted-same : (s c : ℕ) → (nat_le s c || (true && (c + 1 == s))) ≡ nat_le s (c + 1)
counted-same s c = grind (arith, nat_tests)

counted-other : (s c : ℕ) (b : Bool) → (nat_le s c || (false && b)) ≡ nat_le s (c + 0)
counted-other s c b = grind (arith, nat_tests)

holds-push : (t : Txn) (done : List Txn) (u : Txn) → holds t (done ++ u ∷ []) ≡ (holds t done || same_txn u t)
holds-push t done u = list_any-append (λ (x : Txn). same_txn x t) done (u ∷ []) ∙ ap (λ b. holds t done || b) (or_none (same_txn u t))
  where
    or_none : (b : Bool) → (b || false) ≡ b
    or_none true = refl
    or_none false = refl

HoldsCounted-more : (done : List Txn) (x : ServerNo × ℕ) → HoldsCounted done → HoldsCounted (done ++ next_txn done x ∷ [])
HoldsCounted-more done x holds_done = λ t one. step t one (cases_eq x.0.0 t.origin.0)
  where
    step : (t : Txn) → 1 ≤ t.seq → (x.0.0 ≡ t.origin.0) ⊎ (x.0.0 ≡ t.origin.0 → ⊥) → holds t (done ++ next_txn done x ∷ []) ≡ nat_le t.seq (count_own t.origin.0 (done ++ next_txn done x ∷ []))
    step t one (inl same) =
        let test : (x.0.0 == t.origin.0) ≡ true = eq-eqb x.0.0 t.origin.0 same in
        holds-push t done (next_txn done x)
        ∙ ap (λ b. b || same_txn (next_txn done x) t) (holds_done t one)
        ∙ ap (λ b. nat_le t.seq (count_own t.origin.0 done) || (b && (count_own x.0.0 done + 1 == t.seq))) test
        ∙ ap (λ o. nat_le t.seq (count_own t.origin.0 done) || (true && (count_own o done + 1 == t.seq))) same
        ∙ counted-same t.seq (count_own t.origin.0 done)
        ∙ ap (λ n. nat_le t.seq (count_own t.origin.0 done + n)) (sym (ap tick test))
        ∙ ap (nat_le t.seq) (sym (count_own-push t.origin.0 done (next_txn done x)))
    step t one (inr apart) =
        let test : (x.0.0 == t.origin.0) ≡ false = ne_eqb x.0.0 t.origin.0 apart in
        holds-push t done (next_txn done x)
        ∙ ap (λ b. b || same_txn (next_txn done x) t) (holds_done t one)
        ∙ ap (λ b. nat_le t.seq (count_own t.origin.0 done) || (b && (count_own x.0.0 done + 1 == t.seq))) test
        ∙ counted-other t.seq (count_own t.origin.0 done) (count_own x.0.0 done + 1 == t.seq)
        ∙ ap (λ n. nat_le t.seq (count_own t.origin.0 done + n)) (sym (ap tick test))
        ∙ ap (nat_le t.seq) (sym (count_own-push t.origin.0 done (next_txn done x)))

joined_by-holds : (done : List Txn) (xs : List (ServerNo × ℕ)) → HoldsCounted done → HoldsCounted (joined_by done xs)
joined_by-holds done [] h = h
joined_by-holds done (x ∷ xs) h = joined_by-holds (done ++ next_txn done x ∷ []) xs (HoldsCounted-more done x h)

HoldsCounted-none : HoldsCounted []
HoldsCounted-none = λ t one. grind (arith, nat_tests)

-- what a server has executed holds what it counts
pub take-holds : (parts : List Part) (k : ℕ) (t : Txn) → 1 ≤ t.seq → holds t (take k (listed_history parts)) ≡ nat_le t.seq (count_own t.origin.0 (take k (listed_history parts)))
take-holds parts k t one = rw take-listed (joined_by-holds [] (take k (singles parts)) HoldsCounted-none t one)
