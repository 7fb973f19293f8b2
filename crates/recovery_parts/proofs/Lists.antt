-- What holds of a list's elements, and what a function gives of each.
use Rattle.std.proofs.Common.{◌≡◌, ◌∙◌, ℕ, ◌+◌, ◌<◌, List, [], ◌∷◌, ◌++◌, take, length, get_or, refl, sym, ap, subst, append_assoc, map, All, Option, Some, None, filter_map}
use Rattle.std.proofs.lemmas.List.{take_more}
use Rattle.std.proofs.lemmas.List.Elements.{All-map, filter_map-append}
use Rattle.std.specs.List.{cons_option}
use Rattle.std.specs.Option.{option_to_list}

-- what holds of all of a list holds of what is made of them
pub all-made : {X Y : Type 0} (P : Y → Type 0) (f : X → Y) (xs : List X) (ys : List Y) → ys ≡ map f xs → All (λ x. P (f x)) xs → All P ys
all-made P f xs ys made all = subst (All P) (sym made) (All-map P f xs all)

cons-list : {Y : Type 0} (o : Option Y) → cons_option o [] ≡ option_to_list o
cons-list None = refl
cons-list (Some y) = refl

-- what is given of one more
pub given-more : {X Y : Type 0} (h : X → Option Y) (xs : List X) (k : ℕ) (d : X) → k < length xs
    → filter_map h (take k xs) ++ option_to_list (h (get_or xs k d)) ≡ filter_map h (take (k + 1) xs)
given-more h xs k d within =
    ap (λ us. filter_map h (take k xs) ++ us) (sym (cons-list (h (get_or xs k d))))
    ∙ sym (filter_map-append h (take k xs) (get_or xs k d ∷ []))
    ∙ ap (filter_map h) (sym (take_more xs k d within))

-- what one more gives, after others
pub given-onto : {X Y : Type 0} (h : X → Option Y) (before : List Y) (xs : List X) (k : ℕ) (d : X) (ys zs : List Y) (o : Option Y) → k < length xs
    → ys ≡ before ++ filter_map h (take k xs) → zs ≡ ys ++ option_to_list o → o ≡ h (get_or xs k d) → zs ≡ before ++ filter_map h (take (k + 1) xs)
given-onto h before xs k d ys zs o within so_far more given =
    more
    ∙ ap (λ us. us ++ option_to_list o) so_far
    ∙ ap (λ v. (before ++ filter_map h (take k xs)) ++ option_to_list v) given
    ∙ append_assoc before (filter_map h (take k xs)) (option_to_list (h (get_or xs k d)))
    ∙ ap (λ us. before ++ us) (given-more h xs k d within)
