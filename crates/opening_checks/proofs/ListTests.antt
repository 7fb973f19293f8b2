-- Tests of all elements of a list, and of all numbers below one.
pub use Rattle.openings.proofs.Agreements.{list_all-from_get}
use Rattle.std.proofs.Common.{◌≡◌, ℕ, ◌<◌, inl, inr, Bool, true, false, List, [], ◌∷◌, refl, sym, ap, subst, ◌∙◌, Some, arith, suc, zero, ◌&&◌, slice_get}
use Rattle.opening_checks.proofs.Prelude.{all_below, and_from, and_parts, cases_order, list_all, same_Some}

pub same_Bool : (a b : Bool) → (a ≡ true → b ≡ true) → (b ≡ true → a ≡ true) → a ≡ b
same_Bool true b there back = sym (there refl)
same_Bool false true there back = back refl
same_Bool false false there back = refl

pub list_all-get : {X : Type 0} (p : X → Bool) (xs : List X) → list_all p xs ≡ true → (k : ℕ) (x : X) → slice_get xs k ≡ Some x → p x ≡ true
list_all-get p [] all k x h = cc
list_all-get p (y ∷ ys) all zero x h = subst (λ z. p z ≡ true) (same_Some y x h) (and_parts (p y) (list_all p ys) all).0
list_all-get p (y ∷ ys) all (suc k) x h = list_all-get p ys (and_parts (p y) (list_all p ys) all).1 k x h

pub list_all-same : {X : Type 0} (p q : X → Bool) (xs : List X) → ((k : ℕ) (x : X) → slice_get xs k ≡ Some x → p x ≡ q x) → list_all p xs ≡ list_all q xs
list_all-same p q [] each = refl
list_all-same p q (y ∷ ys) each = ap (λ b. b && list_all p ys) (each 0 y refl) ∙ ap (λ b. q y && b) (list_all-same p q ys (λ k x h. each (suc k) x h))

pub all_below-each : (p : ℕ → Bool) (n : ℕ) → all_below p n ≡ true → (m : ℕ) → m < n → p m ≡ true
all_below-each p zero all m less = absurd (omega arith)
all_below-each p (suc n) all m less =
    let parts = and_parts (all_below p n) (p n) all in
    elim (cases_order m n) [
      | inl same ↦ subst (λ k. p k ≡ true) (sym same) parts.1
      | inr (inl below) ↦ all_below-each p n parts.0 m below
      | inr (inr above) ↦ absurd (omega arith)
    ]

pub all_below-from_each : (p : ℕ → Bool) (n : ℕ) → ((m : ℕ) → m < n → p m ≡ true) → all_below p n ≡ true
all_below-from_each p zero each = refl
all_below-from_each p (suc n) each = and_from (all_below p n) (p n) (all_below-from_each p n (λ m h. each m (omega arith))) (each n (omega arith))
