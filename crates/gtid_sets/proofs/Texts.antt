-- What is printed so far, and what is left.
use Rattle.std.proofs.Common.{◌≡◌, ℕ, ◌+◌, ◌<◌, ◌≤◌, List, [], ◌∷◌, ◌++◌, length, get_or, drop, drop-cons, add-one, append-nil, append_assoc, Option, Some, refl, sym, ap, ◌∙◌}
use Rattle.gtid_sets.proofs.Prelude.{Interval, drop_all, head_text, range_text, texts}

pub texts_more : (before : Option ℕ) (xs : List Interval) (i : ℕ) (d : Interval) → i < length xs
    → texts before (drop i xs) ≡ (head_text before (get_or xs i d).uuid ++ 58 ∷ range_text (get_or xs i d)) ++ texts (Some (get_or xs i d).uuid) (drop (i + 1) xs)
unfolding texts
texts_more before xs i d h = rw (add-one, drop-cons xs i d) refl

pub texts_all : (before : Option ℕ) (xs : List Interval) (i : ℕ) → length xs ≤ i → texts before (drop i xs) ≡ []
unfolding texts
texts_all before xs i h = rw (drop_all i xs h) refl

pub texts_step : (whole text one two head range rest : List ℕ) → whole ≡ text ++ ((head ++ range) ++ rest) → one ≡ text ++ head → two ≡ one ++ range → whole ≡ two ++ rest
texts_step whole text one two head range rest e f g =
    e ∙ rw (g, f, append_assoc (text ++ head) range rest, append_assoc text head (range ++ rest), append_assoc head range rest) refl

pub texts_end : (whole text rest : List ℕ) → whole ≡ text ++ rest → rest ≡ [] → text ≡ whole
texts_end whole text rest e f = sym (e ∙ (ap (λ (t : List ℕ). text ++ t) f ∙ append-nil text))
