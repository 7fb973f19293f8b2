-- Texts that all have patterns, and answers one after the other.
use Rattle.std.proofs.Common.{◌≡◌, ℕ, ◌+◌, ◌<◌, Bool, true, false, not, nat_lt, List, [], ◌∷◌, ◌++◌, length, map, take, get_or, None, refl, arith}
use Rattle.scenario_reader.proofs.Prelude.{All-head, All-push, All-tail, HavePatterns, map-append, take_more}
use Rattle.std.specs.List.{position_or_len}
use Rattle.std.proofs.lemmas.Bool.Decides.{nat_tests}
use Rattle.cluster_filters.specs.Forms.{Form, form_of, has_pattern, forms_of, first_bad}

abbrev fails : Form → Bool
fails form = not (has_pattern form)

abbrev Has : List ℕ → Type 0
Has text = has_pattern (form_of text) ≡ true

past : (texts : List (List ℕ)) → HavePatterns texts → position_or_len fails (forms_of texts) ≡ length (forms_of texts)
past [] all = refl
past (t ∷ ts) all =
    let here : has_pattern (form_of t) ≡ true = All-head Has t ts all in
    let rest : position_or_len fails (forms_of ts) ≡ length (forms_of ts) = past ts (All-tail Has t ts all) in
    rw here (omega arith)

not_less : (n : ℕ) → nat_lt n n ≡ false
not_less n = grind (arith, nat_tests)

pub none_bad : (texts : List (List ℕ)) → HavePatterns texts → first_bad (forms_of texts) ≡ None
none_bad texts all = rw (past texts all, not_less (length (forms_of texts))) refl

pub pattern_pushed : {A : Type 0} (f : A → List ℕ) (xs : List A) (x : A) → HavePatterns (map f xs) → Has (f x) → HavePatterns (map f (xs ++ x ∷ []))
pattern_pushed f xs x all has = rw (map-append f xs (x ∷ [])) (All-push Has (map f xs) (f x) all has)

-- the image of one element more
pub mapped_more : {A B : Type 0} (f : A → B) (xs : List A) (n : ℕ) (x : A) (front : List B) (y : B) → n < length xs → x ≡ get_or xs n x → y ≡ f x → front ≡ map f (take n xs)
    → front ++ y ∷ [] ≡ map f (take (n + 1) xs)
mapped_more f xs n x front y lt here is so_far =
    rw (take_more xs n x lt, ← here, map-append f (take n xs) (x ∷ []), so_far, is) refl
