-- Lists that are equal at each place of a function of their elements.
use Rattle.std.proofs.Common.{◌≡◌, ℕ, ◌+◌, ◌<◌, List, [], ◌∷◌, ◌++◌, length, map, take, get_or, ap, sym, ◌∙◌}
use Rattle.scenarios.proofs.Prelude.{get_or-map, map-append, take_more}

pub same_at : {A B : Type 0} (f : A → B) (xs ys : List A) (n : ℕ) (x y : A) → n < length xs → n < length ys → x ≡ get_or xs n x → y ≡ get_or ys n y → map f xs ≡ map f ys → f x ≡ f y
same_at f xs ys n x y within inside is are e =
    let left = get_or-map f xs n x (f x) within in
    let right = get_or-map f ys n y (f x) inside in
    ap f is ∙ sym left ∙ ap (λ zs. get_or zs n (f x)) e ∙ right ∙ ap f (sym are)

pub same_more : {A B : Type 0} (f : A → B) (xs ys : List A) (n : ℕ) (x y : A) → n < length xs → n < length ys → x ≡ get_or xs n x → y ≡ get_or ys n y → f x ≡ f y → map f (take n xs) ≡ map f (take n ys)
    → map f (take (n + 1) xs) ≡ map f (take (n + 1) ys)
same_more f xs ys n x y within inside is are same e =
    let one = ap (map f) (take_more xs n x within) ∙ map-append f (take n xs) (get_or xs n x ∷ []) in
    let other = ap (map f) (take_more ys n y inside) ∙ map-append f (take n ys) (get_or ys n y ∷ []) in
    let last : f (get_or xs n x) ≡ f (get_or ys n y) = ap f (sym is) ∙ same ∙ ap f are in
    one ∙ ap (λ zs. zs ++ f (get_or xs n x) ∷ []) e ∙ ap (λ z. map f (take n ys) ++ z ∷ []) last ∙ sym other
