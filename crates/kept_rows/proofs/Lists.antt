-- Filters that keep all or nothing, and lists that rise.
use Rattle.std.proofs.Common.{◌≡◌, ℕ, suc, zero, ◌+◌, ◌<◌, ◌≤◌, Bool, true, false, List, [], ◌∷◌, ◌++◌, length, take, drop, filter, All, refl, sym, ap, subst, length-drop, arith}
use Rattle.kept_rows.proofs.Prelude.{All-append, All-head, All-tail, AllPairs, AllPairs-cons, AllWithin, get_or-drop, get_or-take, length-take-le}
use Rattle.kept_rows.proofs.Prelude.{slice_set}

pub filter_all : {X : Type 0} (p : X → Bool) (xs : List X) → All (λ x. p x ≡ true) xs → filter p xs ≡ xs
filter_all p [] h = refl
filter_all p (x ∷ xs) h =
    let here = All-head (λ y. p y ≡ true) x xs h in
    let rest = filter_all p xs (All-tail (λ y. p y ≡ true) x xs h) in
    rw (here, rest) refl

pub filter_none : {X : Type 0} (p : X → Bool) (xs : List X) → All (λ x. p x ≡ false) xs → filter p xs ≡ []
filter_none p [] h = refl
filter_none p (x ∷ xs) h =
    let here = All-head (λ y. p y ≡ false) x xs h in
    let rest = filter_none p xs (All-tail (λ y. p y ≡ false) x xs h) in
    rw (here, rest) refl

pub pairs_head : {X : Type 0} (R : X → X → Type 0) (x : X) (xs : List X) → AllPairs R (x ∷ xs) → All (R x) xs
pairs_head R x xs h = λ k d within. h 0 (suc k) d (omega arith) (omega (arith, within))

pub pairs_tail : {X : Type 0} (R : X → X → Type 0) (x : X) (xs : List X) → AllPairs R (x ∷ xs) → AllPairs R xs
pairs_tail R x xs h = λ i j d less within. h (suc i) (suc j) d (omega (arith, less)) (omega (arith, within))

pub pairs_append : {X : Type 0} (R : X → X → Type 0) (xs ys : List X) → AllPairs R xs → AllPairs R ys → All (λ x. All (R x) ys) xs → AllPairs R (xs ++ ys)
pairs_append R [] ys front back across = back
pairs_append R (x ∷ xs) ys front back across =
    AllPairs-cons R x (xs ++ ys)
    (All-append (R x) xs ys (pairs_head R x xs front) (All-head (λ z. All (R z) ys) x xs across))
    (pairs_append R xs ys (pairs_tail R x xs front) back (All-tail (λ z. All (R z) ys) x xs across))

pub All_take : {X : Type 0} (P : X → Type 0) (xs : List X) (i : ℕ) → i ≤ length xs → AllWithin P xs 0 i → All P (take i xs)
All_take P xs i within h = λ k d small.
    let less : k < i = omega (arith, small, length-take-le i xs within) in
    subst P (sym (get_or-take i xs k d less)) (h k d (omega arith) less)

pub All_drop : {X : Type 0} (P : X → Type 0) (xs : List X) (i : ℕ) → AllWithin P xs i (length xs) → All P (drop i xs)
All_drop P xs i h = λ k d small.
    let within : i + k < length xs = omega (arith, small, length-drop i xs) in
    subst P (sym (get_or-drop i xs k d)) (h (i + k) d (omega arith) within)

pub set_parts : {X : Type 0} (xs : List X) (i : ℕ) (x : X) → i < length xs → slice_set xs i x ≡ take i xs ++ x ∷ drop (suc i) xs
set_parts [] i x within = absurd (omega (arith, within))
set_parts (y ∷ ys) zero x within = refl
set_parts (y ∷ ys) (suc i) x within = ap (λ l. y ∷ l) (set_parts ys i x (omega (arith, within)))
