-- Lists of what a function gives of each of a list.
use Rattle.std.proofs.Common.{◌≡◌, ℕ, ◌+◌, ◌<◌, Bool, true, false, cond, List, [], ◌∷◌, ◌++◌, take, length, get_or, map, refl, sym, ◌∙◌, ap, filter}
use Rattle.recovery_turns.proofs.Prelude.{filter_more, map-append}
pub use Rattle.recovery_parts.proofs.Lists.{given-more, given-onto}

-- what is made of each that passes a test, with one more
pub passing-onto : {X Y : Type 0} (f : X → Y) (p : X → Bool) (xs : List X) (k : ℕ) (d : X) (ys zs : List Y) (b : Bool) → k < length xs
    → ys ≡ map f (filter p (take k xs)) → zs ≡ ys ++ cond b (f (get_or xs k d) ∷ []) [] → b ≡ p (get_or xs k d) → zs ≡ map f (filter p (take (k + 1) xs))
passing-onto f p xs k d ys zs b within so_far more is =
    more
    ∙ ap (λ us. us ++ cond b (f (get_or xs k d) ∷ []) []) so_far
    ∙ ap (λ (c : Bool). map f (filter p (take k xs)) ++ cond c (f (get_or xs k d) ∷ []) []) is
    ∙ ap (λ us. map f (filter p (take k xs)) ++ us) (either (p (get_or xs k d)))
    ∙ sym (map-append f (filter p (take k xs)) (cond (p (get_or xs k d)) (get_or xs k d ∷ []) []))
    ∙ ap (map f) (sym (filter_more p xs k d within))
  where
    either : (c : Bool) → cond c (f (get_or xs k d) ∷ []) [] ≡ map f (cond c (get_or xs k d ∷ []) [])
    either true = refl
    either false = refl
