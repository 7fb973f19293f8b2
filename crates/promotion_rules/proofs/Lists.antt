-- Lists of what a function gives of each of a list.
use Rattle.std.proofs.Common.{◌≡◌, ℕ, ◌+◌, ◌<◌, List, [], ◌∷◌, ◌++◌, take, length, get_or, refl, sym, ◌∙◌, ap, Option, Some, None, filter_map}
use Rattle.promotion_rules.proofs.Prelude.{filter_map-append, option_to_list, take_more}

cons-list : {Y : Type 0} (o : Option Y) → Rattle.std.specs.List.cons_option o [] ≡ option_to_list o
cons-list None = refl
cons-list (Some y) = refl

-- what is given of one more
pub filter_map-more : {X Y : Type 0} (h : X → Option Y) (xs : List X) (k : ℕ) (d : X) (ys zs : List Y) → k < length xs
    → ys ≡ filter_map h (take k xs) → zs ≡ ys ++ option_to_list (h (get_or xs k d)) → zs ≡ filter_map h (take (k + 1) xs)
filter_map-more h xs k d ys zs within so_far more =
    more
    ∙ ap (λ us. us ++ option_to_list (h (get_or xs k d))) so_far
    ∙ ap (λ us. filter_map h (take k xs) ++ us) (sym (cons-list (h (get_or xs k d))))
    ∙ sym (filter_map-append h (take k xs) (get_or xs k d ∷ []))
    ∙ ap (filter_map h) (sym (take_more xs k d within))
