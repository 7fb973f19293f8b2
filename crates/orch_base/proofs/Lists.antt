-- Elements of lists by their index.
use Rattle.std.proofs.Common.{◌≡◌, ℕ, ◌+◌, ◌<◌, ◌≤◌, Bool, true, false, cond, eqb, ◌||◌, List, [], ◌∷◌, ◌++◌, length, refl, sym, ap, inl, inr, ◌⊎◌, Some, arith, zero, suc, take, slice_get, filter}
use Rattle.std.proofs.lemmas.Bool.{eq-eqb, or_right}
use Rattle.std.proofs.lemmas.Option.{same_Some}
use Rattle.std.specs.List.{AllByRecursion, list_any}

-- an element of a list with one more at its end is an old one or the new one
pub slice_get-snoc_cases : {X : Type 0} (xs : List X) (y x : X) (i : ℕ) → slice_get (xs ++ y ∷ []) i ≡ Some x → (slice_get xs i ≡ Some x) ⊎ ((i ≡ length xs) × (x ≡ y))
slice_get-snoc_cases [] y x zero h = inr (refl, sym (same_Some y x h))
slice_get-snoc_cases [] y x (suc i) h = cc
slice_get-snoc_cases (z ∷ xs) y x zero h = inl h
slice_get-snoc_cases (z ∷ xs) y x (suc i) h =
    elim (slice_get-snoc_cases xs y x i h) [ inl old ↦ inl old | inr new ↦ inr (ap suc new.0, new.1) ]

-- what is taken of a list is taken of one that goes on
pub slice_get-take : {X : Type 0} (xs : List X) (n i : ℕ) (x : X) → slice_get (take n xs) i ≡ Some x → slice_get xs i ≡ Some x
slice_get-take [] zero i x h = h
slice_get-take [] (suc n) i x h = h
slice_get-take (z ∷ xs) zero i x h = cc
slice_get-take (z ∷ xs) (suc n) zero x h = h
slice_get-take (z ∷ xs) (suc n) (suc i) x h = slice_get-take xs n i x h

-- a prefix of a list has what the list has there
pub slice_get-front : {X : Type 0} (xs : List X) (n i : ℕ) (x : X) → i < n → slice_get xs i ≡ Some x → slice_get (take n xs) i ≡ Some x
slice_get-front [] n i x h e = cc
slice_get-front (y ∷ ys) zero i x h e = absurd (omega arith)
slice_get-front (y ∷ ys) (suc n) zero x h e = e
slice_get-front (y ∷ ys) (suc n) (suc i) x h e = slice_get-front ys n i x (omega arith) e

-- one element more of a list
pub take-more : {X : Type 0} (xs : List X) (i : ℕ) (x : X) → slice_get xs i ≡ Some x → take (i + 1) xs ≡ take i xs ++ x ∷ []
take-more [] i x h = cc
take-more (z ∷ xs) zero x h = let e : z ≡ x = same_Some z x h in ap (λ y. y ∷ []) e
take-more (z ∷ xs) (suc i) x h =
    let e : suc i + 1 ≡ suc (i + 1) = omega arith in rw e (ap (λ ys. z ∷ ys) (take-more xs i x h))

-- an element of a list with one more at its end
pub slice_get-snoc_old : {X : Type 0} (xs : List X) (y x : X) (i : ℕ) → slice_get xs i ≡ Some x → slice_get (xs ++ y ∷ []) i ≡ Some x
slice_get-snoc_old [] y x i h = cc
slice_get-snoc_old (z ∷ xs) y x zero h = h
slice_get-snoc_old (z ∷ xs) y x (suc i) h = slice_get-snoc_old xs y x i h

pub slice_get-there : {A : Type 0} (xs : List A) (k : ℕ) → k < length xs → (x : A) × (slice_get xs k ≡ Some x)
slice_get-there [] k below = absurd (omega arith)
slice_get-there (x ∷ xs) zero below = (x, refl)
slice_get-there (x ∷ xs) (suc k) below = slice_get-there xs k (omega arith)

pub filter-shorter : {X : Type 0} (p : X → Bool) (xs : List X) → length (filter p xs) ≤ length xs
filter-shorter p [] = omega arith
filter-shorter {X} p (x ∷ xs) = go (p x) (filter-shorter p xs)
  where
    go : (b : Bool) → length (filter p xs) ≤ length xs → length (cond b (x ∷ filter p xs) (filter p xs)) ≤ length (x ∷ xs)
    go true h = omega (arith, h)
    go false h = omega (arith, h)

-- if no element of a list equals a number, each differs from it
pub all-apart : (x : ℕ) (xs : List ℕ) → ((q : ℕ) → list_any (eqb q) xs ≡ true → eqb x q ≡ false) → AllByRecursion (λ y. eqb x y ≡ false) xs
all-apart x [] apart = tt
all-apart x (y ∷ ys) apart =
    (apart y (ap (λ b. b || list_any (eqb y) ys) (eq-eqb y y refl)), all-apart x ys (λ q h. apart q (or_right (eqb q y) (list_any (eqb q) ys) h)))
