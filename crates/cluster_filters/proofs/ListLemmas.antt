-- The images of a list's elements, and the first that passes a test.
use Rattle.std.proofs.Common.{◌≡◌, ℕ, zero, suc, ◌+◌, ◌<◌, ◌≤◌, Bool, true, false, not, cond, ◌||◌, nat_lt, List, [], ◌∷◌, length, map, take, get_or, Some, None, refl, ap, arith, length-take}
use Rattle.std.proofs.lemmas.List.{length-map}
use Rattle.std.specs.List.{list_any, position_or_len, position}
use Rattle.std.proofs.lemmas.Bool.{lt-ltb}
use Rattle.std.proofs.lemmas.Bool.Decides.{nat_tests}
use Rattle.std.proofs.lemmas.List.Sums.{prefix_len-le-length}

pub map-map : {A B C : Type 0} (f : B → C) (g : A → B) (xs : List A) → map f (map g xs) ≡ map (λ x. f (g x)) xs
map-map f g [] = refl
map-map f g (x ∷ xs) = ap (λ ys. f (g x) ∷ ys) (map-map f g xs)

or_true : (b : Bool) → (b || true) ≡ true
or_true true = refl
or_true false = refl

pub list_any-map-at : {A B : Type 0} (p : B → Bool) (f : A → B) (xs : List A) (i : ℕ) (x : A) → i < length xs →
    x ≡ get_or xs i x → p (f x) ≡ true → list_any p (map f xs) ≡ true
list_any-map-at p f [] i x lt is passes = absurd (omega arith)
list_any-map-at p f (y ∷ ys) zero x lt is passes = rw (← is, passes) refl
list_any-map-at p f (y ∷ ys) (suc i) x lt is passes =
    rw (list_any-map-at p f ys i x (omega arith) is passes) (or_true (p (f y)))

passed_over : (b : Bool) (m n i : ℕ) → cond (not b) (1 + m) 0 ≡ suc i → (m ≡ i → n ≡ i) → cond (not b) (1 + n) 0 ≡ suc i
passed_over true m n i e k = absurd (omega arith)
passed_over false m n i e k = let same : n ≡ i = k (omega arith) in omega arith

position_or_len-map-at : {A B : Type 0} (p : B → Bool) (f : A → B) (xs : List A) (i : ℕ) (x : A) → i < length xs →
    x ≡ get_or xs i x → position_or_len p (map f (take i xs)) ≡ i → p (f x) ≡ true → position_or_len p (map f xs) ≡ i
position_or_len-map-at p f [] i x lt is before passes = absurd (omega arith)
position_or_len-map-at p f (y ∷ ys) zero x lt is before passes = rw (← is, passes) refl
position_or_len-map-at p f (y ∷ ys) (suc i) x lt is before passes =
    passed_over (p (f y)) _ _ i before (λ e. position_or_len-map-at p f ys i x (omega arith) is e passes)

-- if none before it passes, the place is its own
pub position-map-at : {A B : Type 0} (p : B → Bool) (f : A → B) (xs : List A) (i : ℕ) (x : A) → i < length xs →
    x ≡ get_or xs i x → position p (map f (take i xs)) ≡ None → p (f x) ≡ true → position p (map f xs) ≡ Some i
position-map-at {A} p f xs i x lt is none passes =
    let count : length (map f (take i xs)) ≡ i = simp (length-map, length-take) (omega arith) in
    let most : position_or_len p (map f (take i xs)) ≤ length (map f (take i xs)) = prefix_len-le-length _ _ in
    let before : position_or_len p (map f (take i xs)) ≡ i = grind (arith, nat_tests) in
    let here : position_or_len p (map f xs) ≡ i = position_or_len-map-at p f xs i x lt is before passes in
    let within : nat_lt i (length (map f xs)) ≡ true = lt-ltb _ _ (simp length-map lt) in
    rw (here, within) refl
