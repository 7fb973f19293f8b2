-- Rows that all count.
use Rattle.std.proofs.Common.{◌≡◌, Bool, true, List, [], ◌∷◌, filter, refl}
use Rattle.opening_book.proofs.Prelude.{both_true, list_all}

pub filter_whole : {X : Type 0} (p : X → Bool) (xs : List X) → list_all p xs ≡ true → filter p xs ≡ xs
filter_whole p [] all = refl
filter_whole p (x ∷ xs) all =
    let both = both_true (p x) (list_all p xs) all in
    let rest = filter_whole p xs both.1 in
    rw (both.0, rest) refl
