-- One more option, and one more word.
use Rattle.command_line.proofs.Prelude.{App, BadWords, IsUtf8, IsUtf8-from_is_utf8, Text, and_left as and_false, is_utf8, is_utf8-from_IsUtf8}
use Rattle.command_line.proofs.Prelude.{list_all, long_rule, texts_of, with_options, with_rule}
use Rattle.std.proofs.Common.{◌≡◌, ℕ, ◌+◌, ◌<◌, ◌≤◌, Bool, true, false, List, [], ◌∷◌, ◌++◌, map, length, drop, get_or, Bor, Vec, Global, refl, sym, ap, ◌∙◌, append_assoc, append-nil, Ok, Err, ◌&&◌}
use Rattle.command_line.proofs.Lists.{item_then, none_left}

abbrev now : Bor Text → Text
now s = s.now

abbrev bytes : Vec ℕ Global → List ℕ
bytes w = w.items

pub one_more_option : (first app next : App) (names : List (Bor Text)) (i : ℕ) (d : Bor Text) → i < length names
    → next ≡ with_rule app (long_rule (get_or names i d).now) → with_options app (map now (drop i names)) ≡ with_options first (map now names)
    → with_options next (map now (drop (i + 1) names)) ≡ with_options first (map now names)
one_more_option first app next names i d lt is so_far =
    ap (λ (a : App). with_options a (map now (drop (i + 1) names))) is ∙ ap (with_options app) (sym (item_then now names i d lt)) ∙ so_far

map_push : (texts : List (Bor Text)) (t : Bor Text) → map now (texts ++ t ∷ []) ≡ map now texts ++ t.now ∷ []
map_push [] t = refl
map_push (x ∷ xs) t = ap (λ (ts : List Text). x.now ∷ ts) (map_push xs t)

pub one_more_text : (texts pushed : List (Bor Text)) (t : Bor Text) (words : List (Vec ℕ Global)) (i : ℕ) (d : Vec ℕ Global) → i < length words
    → pushed ≡ texts ++ t ∷ [] → t.now ≡ (get_or words i d).items → map now texts ++ map bytes (drop i words) ≡ map bytes words
    → map now pushed ++ map bytes (drop (i + 1) words) ≡ map bytes words
one_more_text texts pushed t words i d lt is same so_far =
    ap (λ (ts : List (Bor Text)). map now ts ++ map bytes (drop (i + 1) words)) is
    ∙ ap (λ (ts : List Text). ts ++ map bytes (drop (i + 1) words)) (map_push texts t)
    ∙ append_assoc (map now texts) (t.now ∷ []) (map bytes (drop (i + 1) words))
    ∙ ap (λ (w : Text). map now texts ++ w ∷ map bytes (drop (i + 1) words)) same
    ∙ ap (λ (ws : List Text). map now texts ++ ws) (sym (item_then bytes words i d lt))
    ∙ so_far

and_true : (b c : Bool) → b ≡ true → c ≡ (b && c)
and_true true c e = refl
and_true false c e = absurd cc

-- an argument that is UTF-8 leaves it to those after it
pub utf8_behind : (words : List (Vec ℕ Global)) (i : ℕ) (d : Vec ℕ Global) → i < length words → IsUtf8 (get_or words i d).items
    → list_all is_utf8 (map bytes (drop i words)) ≡ list_all is_utf8 (map bytes words) → list_all is_utf8 (map bytes (drop (i + 1) words)) ≡ list_all is_utf8 (map bytes words)
utf8_behind words i d lt good so_far =
    and_true _ _ (is_utf8-from_IsUtf8 _ good) ∙ ap (list_all is_utf8) (sym (item_then bytes words i d lt)) ∙ so_far

not_utf8 : (bs : List ℕ) (b : Bool) → is_utf8 bs ≡ b → (IsUtf8 bs → ⊥) → is_utf8 bs ≡ false
not_utf8 bs false e bad = e
not_utf8 bs true e bad = absurd (bad (IsUtf8-from_is_utf8 bs e))

-- a word that isn't UTF-8 fails all
pub bad_word : (words : List (Vec ℕ Global)) (i : ℕ) (d : Vec ℕ Global) → i < length words → (IsUtf8 (get_or words i d).items → ⊥)
    → list_all is_utf8 (map bytes (drop i words)) ≡ list_all is_utf8 (map bytes words) → list_all is_utf8 (map bytes words) ≡ false
bad_word words i d lt bad so_far =
    sym so_far ∙ ap (list_all is_utf8) (item_then bytes words i d lt) ∙ and_false _ _ (not_utf8 _ _ refl bad)

-- after the last word
pub all_texts : (texts : List (Bor Text)) (words : List (Vec ℕ Global)) (i : ℕ) → length words ≤ i → map now texts ++ map bytes (drop i words) ≡ map bytes words
    → list_all is_utf8 (map bytes (drop i words)) ≡ list_all is_utf8 (map bytes words) → texts_of (map bytes words) ≡ Ok (map now texts)
unfolding texts_of
all_texts texts words i past same utf8 =
    let ends : map bytes (drop i words) ≡ [] = none_left bytes words i past in
    let good : list_all is_utf8 (map bytes words) ≡ true = sym utf8 ∙ ap (list_all is_utf8) ends in
    let all : map bytes words ≡ map now texts = sym same ∙ ap (λ (ws : List Text). map now texts ++ ws) ends ∙ append-nil (map now texts) in
    rw good (ap Ok all)

pub no_texts : (words : List (List ℕ)) → list_all is_utf8 words ≡ false → texts_of words ≡ Err BadWords
unfolding texts_of
no_texts words bad = rw bad refl
