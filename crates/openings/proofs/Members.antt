-- What is at a place of a longer list.
pub use Rattle.openings.proofs.Fronts.{slice_get-snoc_cases as get-push}
use Rattle.std.proofs.Common.{◌≡◌, ℕ, ◌+◌, ◌<◌, List, [], ◌∷◌, ◌++◌, length, take, replicate, refl, sym, ap, ◌∙◌, inl, inr, ◌⊎◌, Some, arith, suc, zero, subst, slice_get}
use Rattle.openings.proofs.Prelude.{cases_order, same_Some}
pub use Rattle.binlog_coords.proofs.OrchBase.Lists.{slice_get-snoc_old as get-push_old}

pub get-push_new : {X : Type 0} (xs : List X) (y : X) → slice_get (xs ++ y ∷ []) (length xs) ≡ Some y
get-push_new [] y = refl
get-push_new (x ∷ xs) y = get-push_new xs y

-- an element of a prefix is one of the list
pub get-take : {X : Type 0} (n : ℕ) (xs : List X) (z : X) (k : ℕ) → slice_get (take n xs) k ≡ Some z → (k < n) × (slice_get xs k ≡ Some z)
get-take zero [] z k h = absurd (no_item k z h)
  where
    no_item : {X : Type 0} (k : ℕ) (z : X) → slice_get [] k ≡ Some z → ⊥
    no_item k z h = cc
get-take zero (x ∷ xs) z k h = absurd (no_item k z h)
  where
    no_item : {X : Type 0} (k : ℕ) (z : X) → slice_get [] k ≡ Some z → ⊥
    no_item k z h = cc
get-take (suc n) [] z k h = absurd (no_item k z h)
  where
    no_item : {X : Type 0} (k : ℕ) (z : X) → slice_get [] k ≡ Some z → ⊥
    no_item k z h = cc
get-take (suc n) (x ∷ xs) z zero h = (omega arith, h)
get-take (suc n) (x ∷ xs) z (suc k) h = let rest = get-take n xs z k h in let less = rest.0 in (omega arith, rest.1)

-- an element of two joined lists is one of either
pub get-append : {X : Type 0} (xs ys : List X) (z : X) (k : ℕ) → slice_get (xs ++ ys) k ≡ Some z → (slice_get xs k ≡ Some z) ⊎ ((j : ℕ) × (slice_get ys j ≡ Some z))
get-append [] ys z k h = inr (k, h)
get-append (x ∷ xs) ys z zero h = inl h
get-append (x ∷ xs) ys z (suc k) h = get-append xs ys z k h

pub get-replicate : {X : Type 0} (n : ℕ) (x z : X) (k : ℕ) → slice_get (replicate n x) k ≡ Some z → z ≡ x
get-replicate zero x z k h = cc
get-replicate (suc n) x z zero h = sym (same_Some x z h)
get-replicate (suc n) x z (suc k) h = get-replicate n x z k h

-- what holds of each element below a place, and of the one there, holds of each below the next place
pub get-below_more : {X : Type 0} (P : ℕ → X → Type 0) (xs : List X) (at : ℕ) (x : X) → slice_get xs at ≡ Some x → ((k : ℕ) (y : X) → k < at → slice_get xs k ≡ Some y → P k y) → P at x
    → (k : ℕ) (y : X) → k < at + 1 → slice_get xs k ≡ Some y → P k y
get-below_more P xs at x there below here k y less h = elim (cases_order k at) [
  | inl same ↦ (
      let is : x ≡ y = same_Some x y (sym there ∙ ap (slice_get xs) (sym same) ∙ h) in
      subst (λ j. P j y) (sym same) (subst (λ z. P at z) is here))
  | inr (inl earlier) ↦ below k y earlier h
  | inr (inr later) ↦ absurd (omega arith)
]
