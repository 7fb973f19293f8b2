-- Lists from a place on.
use Rattle.std.proofs.Common.{◌≡◌, ℕ, zero, suc, ◌+◌, ◌<◌, ◌≤◌, List, [], ◌∷◌, map, length, drop, refl, ap, ◌∙◌, arith}
use Rattle.command_line.proofs.Prelude.{slice_index_or}

next : {A B : Type 0} (f : A → B) (xs : List A) (i : ℕ) (d : A) → i < length xs → map f (drop i xs) ≡ f (slice_index_or xs i d) ∷ map f (drop (suc i) xs)
next f [] i d lt = absurd (omega arith)
next f (x ∷ xs) zero d lt = refl
next f (x ∷ xs) (suc i) d lt = next f xs i d (omega arith)

-- the item at a place, and those after it
pub item_then : {A B : Type 0} (f : A → B) (xs : List A) (i : ℕ) (d : A) → i < length xs → map f (drop i xs) ≡ f (slice_index_or xs i d) ∷ map f (drop (i + 1) xs)
item_then f xs i d lt =
    let one_more : suc i ≡ i + 1 = omega arith in
    next f xs i d lt ∙ ap (λ (k : ℕ). f (slice_index_or xs i d) ∷ map f (drop k xs)) one_more

-- none is left past the end
pub none_left : {A B : Type 0} (f : A → B) (xs : List A) (i : ℕ) → length xs ≤ i → map f (drop i xs) ≡ []
none_left f [] zero past = refl
none_left f [] (suc i) past = refl
none_left f (x ∷ xs) zero past = absurd (omega arith)
none_left f (x ∷ xs) (suc i) past = none_left f xs i (omega arith)
