-- The changes of an opening, one server after another.
use Rattle.std.proofs.Common.{◌≡◌, ℕ, ◌+◌, ◌<◌, List, [], ◌∷◌, ◌++◌, length, take, get_or, Option, None, Some, refl, sym, ap, ◌∙◌, arith, filter_map}
use Rattle.opening_book.proofs.Prelude.{Change, changes_from, cons_option, filter_map-append, length-take, option_to_list, take_more}

cons-append : (o : Option Change) (xs ys : List Change) → cons_option o xs ++ ys ≡ cons_option o (xs ++ ys)
cons-append None xs ys = refl
cons-append (Some x) xs ys = refl

cons-list : (o : Option Change) → cons_option o [] ≡ option_to_list o
cons-list None = refl
cons-list (Some x) = refl

from-push : {A : Type 0} (f : ℕ → A → Option Change) (n : ℕ) (ks : List A) (k : A)
    → changes_from f n (ks ++ k ∷ []) ≡ changes_from f n ks ++ option_to_list (f (n + length ks) k)
from-push f n [] k =
    let index : n ≡ n + 0 = omega arith in
    cons-list (f n k) ∙ ap (λ (i : ℕ). option_to_list (f i k)) index
from-push f n (x ∷ ks) k =
    let more = from-push f (n + 1) ks k in
    let index : (n + 1) + length ks ≡ n + length (x ∷ ks) = omega arith in
    ap (cons_option (f n x)) (more ∙ ap (λ (i : ℕ). changes_from f (n + 1) ks ++ option_to_list (f i k)) index)
    ∙ sym (cons-append (f n x) (changes_from f (n + 1) ks) (option_to_list (f (n + length (x ∷ ks)) k)))

pub from-more : {A : Type 0} (f : ℕ → A → Option Change) (ks : List A) (i : ℕ) (d : A) → i < length ks
    → changes_from f 0 (take (i + 1) ks) ≡ changes_from f 0 (take i ks) ++ option_to_list (f i (get_or ks i d))
from-more f ks i d within =
    let index : 0 + length (take i ks) ≡ i = omega (arith, length-take i ks) in
    ap (changes_from f 0) (take_more ks i d within)
    ∙ from-push f 0 (take i ks) (get_or ks i d)
    ∙ ap (λ (j : ℕ). changes_from f 0 (take i ks) ++ option_to_list (f j (get_or ks i d))) index

-- the changes that rows bring one after the other
pub map-more : {A : Type 0} (f : A → Option Change) (xs : List A) (i : ℕ) (d : A) → i < length xs
    → filter_map f (take (i + 1) xs) ≡ filter_map f (take i xs) ++ option_to_list (f (get_or xs i d))
map-more f xs i d within =
    ap (filter_map f) (take_more xs i d within)
    ∙ filter_map-append f (take i xs) (get_or xs i d ∷ [])
    ∙ ap (λ (cs : List Change). filter_map f (take i xs) ++ cs) (one (f (get_or xs i d)) refl)
  where
    one : (o : Option Change) → f (get_or xs i d) ≡ o → filter_map f (get_or xs i d ∷ []) ≡ option_to_list (f (get_or xs i d))
    one None is = rw is refl
    one (Some c) is = rw is refl
