-- Look-ups after a write.
use Rattle.std.proofs.Common.{◌≡◌, ℕ, false, cond, List, [], ◌∷◌, refl, sym, ◌∙◌, ap, inl, inr, ◌⊎◌, Some, arith, zero, suc, length, ◌<◌, ◌≤◌, ◌+◌, ◌-◌, ◌++◌, drop, get_or, slice_get, slice_range, slice_set, ◌==◌}
use Rattle.server_model.proofs.Prelude.{cases_eq, eq-eqb, nat_tests, ne_eqb, same_Some, slice_get-get_or}
pub use Rattle.server_words.proofs.OrchBase.Lists.{slice_get-front, slice_get-snoc_cases, slice_get-take, take-more}

pub slice_get-set : {X : Type 0} (xs : List X) (i : ℕ) (x v : X) → slice_get xs i ≡ Some x → (j : ℕ) → slice_get (slice_set xs i v) j ≡ cond (j == i) (Some v) (slice_get xs j)
slice_get-set [] i x v h j = cc
slice_get-set (y ∷ ys) zero x v h zero = refl
slice_get-set (y ∷ ys) zero x v h (suc j) = let apart : (suc j == 0) ≡ false = grind (arith, nat_tests) in rw apart
slice_get-set (y ∷ ys) (suc i) x v h zero = let apart : (0 == suc i) ≡ false = grind (arith, nat_tests) in rw apart
slice_get-set (y ∷ ys) (suc i) x v h (suc j) =
    let same : (suc j == suc i) ≡ (j == i) = grind (arith, nat_tests) in rw same (slice_get-set ys i x v h j)

pub set_same : {X : Type 0} (xs : List X) (i : ℕ) (x v : X) → slice_get xs i ≡ Some x → slice_get (slice_set xs i v) i ≡ Some v
set_same xs i x v h = slice_get-set xs i x v h i ∙ ap (λ b. cond b (Some v) (slice_get xs i)) (eq-eqb i i refl)

pub set_other : {X : Type 0} (xs : List X) (i : ℕ) (x v : X) → slice_get xs i ≡ Some x → (j : ℕ) → (j ≡ i → ⊥) → slice_get (slice_set xs i v) j ≡ slice_get xs j
set_other xs i x v h j apart = slice_get-set xs i x v h j ∙ ap (λ b. cond b (Some v) (slice_get xs j)) (ne_eqb j i apart)

-- an element of the list after a write is the one that was written, or an old one at another place
pub set_cases : {X : Type 0} (xs : List X) (i : ℕ) (x v : X) → slice_get xs i ≡ Some x → (j : ℕ) (y : X) → slice_get (slice_set xs i v) j ≡ Some y
    → ((j ≡ i) × (y ≡ v)) ⊎ ((j ≡ i → ⊥) × (slice_get xs j ≡ Some y))
set_cases xs i x v h j y e =
    elim (cases_eq j i) [
      | inl same ↦ inl (same, same_Some y v (sym e ∙ ap (slice_get (slice_set xs i v)) same ∙ set_same xs i x v h))
      | inr apart ↦ inr (apart, sym (set_other xs i x v h j apart) ∙ e)
    ]

-- a write of what is there
pub set_self : {X : Type 0} (xs : List X) (i : ℕ) (x : X) → slice_get xs i ≡ Some x → slice_set xs i x ≡ xs
set_self [] i x h = cc
set_self (y ∷ ys) zero x h = let e : y ≡ x = same_Some y x h in ap (λ z. z ∷ ys) (sym e)
set_self (y ∷ ys) (suc i) x h = ap (λ zs. y ∷ zs) (set_self ys i x h)

-- what an index finds
pub slice_get-index : {X : Type 0} (xs : List X) (i : ℕ) (x : X) → i < length xs → x ≡ get_or xs i x → slice_get xs i ≡ Some x
slice_get-index xs i x within e = slice_get-get_or xs i x within ∙ ap Some (sym e)

-- the list from an index on begins with what is there
pub slice_get-drop : {X : Type 0} (xs : List X) (i : ℕ) (x : X) → slice_get xs i ≡ Some x → drop i xs ≡ x ∷ drop (i + 1) xs
slice_get-drop [] i x h = cc
slice_get-drop (z ∷ xs) zero x h = let e : z ≡ x = same_Some z x h in ap (λ y. y ∷ xs) e
slice_get-drop (z ∷ xs) (suc i) x h = let e : suc i + 1 ≡ suc (i + 1) = omega arith in rw e (slice_get-drop xs i x h)

-- a part of a list goes on with what is after it
pub range-more : {X : Type 0} (xs : List X) (from i : ℕ) (x : X) → from ≤ i → slice_get xs i ≡ Some x → slice_range xs from (i + 1) ≡ slice_range xs from i ++ x ∷ []
range-more xs zero i x h e =
    let front : i + 1 - 0 ≡ i + 1 = omega arith in
    let same : i - 0 ≡ i = omega arith in
    rw (front, same) (take-more xs i x e)
range-more [] (suc from) i x h e = cc
range-more (z ∷ xs) (suc from) zero x h e = absurd (omega arith)
range-more (z ∷ xs) (suc from) (suc i) x h e =
    let front : suc i + 1 - suc from ≡ i + 1 - from = omega arith in
    let same : suc i - suc from ≡ i - from = omega arith in
    rw (front, same) (range-more xs from i x (omega arith) e)
