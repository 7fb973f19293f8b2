-- A text that is divided before an opening brace, or after a closing one.
use Rattle.std.proofs.Common.{◌≡◌, ℕ, ◌+◌, ◌≤◌, false, List, [], ◌∷◌, ◌++◌, length, zero, suc, Option, Some, None, refl, sym, ap, ◌∙◌, append_assoc, arith, ◌&&◌, ◌==◌, nat_eq}
use Rattle.std.specs.List.{starts_with}
use Rattle.std.proofs.lemmas.List.{length-append}
use Rattle.std.proofs.lemmas.List.Elements.{All-head, All-tail, All-push}
use Rattle.hook_texts.specs.declared.values.Placeholder.{Placeholder}
use Rattle.hook_texts.specs.declared.values.Values.{Values}
use Rattle.hook_texts.specs.Expanded.{expanded, expanded_behind, given_at, placeholder_at, placeholder_text, placeholders, value_of, word_text, Lacks}
use Rattle.hook_texts.proofs.Reading.{and_head, find_same, none_unopened, placeholder_fits, read_byte, words_unclosed, words_unopened}

-- what is after an opening brace decides nothing before it
open_at : (w xs rest : List ℕ) → Lacks 123 w → starts_with nat_eq (xs ++ 123 ∷ rest) w ≡ starts_with nat_eq xs w
open_at [] [] rest lacks = refl
open_at [] (x ∷ xs) rest lacks = refl
open_at (a ∷ w) [] rest lacks = and_head (nat_eq a 123) _ (All-head (λ b. (b == 123) ≡ false) a w lacks)
open_at (a ∷ w) (x ∷ xs) rest lacks = ap (λ b. nat_eq a x && b) (open_at w xs rest (All-tail (λ b. (b == 123) ≡ false) a w lacks))

same_before : (b : ℕ) (front rest : List ℕ) → placeholder_at (b ∷ (front ++ 123 ∷ rest)) ≡ placeholder_at (b ∷ front)
unfolding placeholder_at
same_before b front rest =
    find_same (λ p. starts_with nat_eq (b ∷ (front ++ 123 ∷ rest)) (placeholder_text p)) (λ p. starts_with nat_eq (b ∷ front) (placeholder_text p))
    (λ p. ap (λ c. nat_eq 123 b && c) (open_at (word_text p ++ 125 ∷ []) front rest (All-push (λ b. (b == 123) ≡ false) (word_text p) 125 (words_unopened p) refl)))
    placeholders

-- nor does what is after a closing one
close_at : (w xs rest : List ℕ) → Lacks 125 w → starts_with nat_eq (xs ++ 125 ∷ rest) (w ++ 125 ∷ []) ≡ starts_with nat_eq (xs ++ 125 ∷ []) (w ++ 125 ∷ [])
close_at [] [] rest lacks = refl
close_at [] (x ∷ xs) rest lacks = refl
close_at (a ∷ w) [] rest lacks =
    let other = All-head (λ b. (b == 125) ≡ false) a w lacks in
    and_head (nat_eq a 125) _ other ∙ sym (and_head (nat_eq a 125) _ other)
close_at (a ∷ w) (x ∷ xs) rest lacks = ap (λ b. nat_eq a x && b) (close_at w xs rest (All-tail (λ b. (b == 125) ≡ false) a w lacks))

same_behind : (b : ℕ) (front rest : List ℕ) → placeholder_at (b ∷ (front ++ 125 ∷ rest)) ≡ placeholder_at (b ∷ (front ++ 125 ∷ []))
unfolding placeholder_at
same_behind b front rest =
    find_same (λ p. starts_with nat_eq (b ∷ (front ++ 125 ∷ rest)) (placeholder_text p)) (λ p. starts_with nat_eq (b ∷ (front ++ 125 ∷ [])) (placeholder_text p))
    (λ p. ap (λ c. nat_eq 123 b && c) (close_at (word_text p) front rest (words_unclosed p))) placeholders

-- what the first byte gives, before two rests of which one goes on
given_on : (v : Values) (b : ℕ) (o : Option Placeholder) (f g : ℕ → List ℕ) (more : List ℕ) → f 0 ≡ g 0 ++ more
    → ((p : Placeholder) → o ≡ Some p → f (length (word_text p) + 1) ≡ g (length (word_text p) + 1) ++ more) → given_at v b o f ≡ given_at v b o g ++ more
given_on v b None f g more at_once behind = ap (λ xs. b ∷ xs) at_once
given_on v b (Some p) f g more at_once behind =
    ap (λ xs. value_of v p ++ xs) (behind p refl) ∙ sym (append_assoc (value_of v p) (g (length (word_text p) + 1)) more)

pub divided_open : (v : Values) (n : ℕ) (front rest : List ℕ) → n ≤ length front → expanded_behind v n (front ++ 123 ∷ rest) ≡ expanded_behind v n front ++ expanded v (123 ∷ rest)
unfolding expanded_behind
divided_open v zero [] rest within = refl
divided_open v (suc n) [] rest within = absurd (omega (arith, within))
divided_open v zero (b ∷ front) rest within =
    let whole : ℕ → List ℕ = λ n. expanded_behind v n (front ++ 123 ∷ rest) in
    let part : ℕ → List ℕ = λ n. expanded_behind v n front in
    ap (λ o. given_at v b o whole) (same_before b front rest)
    ∙ given_on v b (placeholder_at (b ∷ front)) whole part (expanded v (123 ∷ rest)) (divided_open v 0 front rest (omega arith))
    (λ p found. divided_open v (length (word_text p) + 1) front rest (placeholder_fits b front p found))
divided_open v (suc n) (b ∷ front) rest within = divided_open v n front rest (omega (arith, within))

pub divided_close : (v : Values) (n : ℕ) (front rest : List ℕ) → n ≤ length front + 1
    → expanded_behind v n (front ++ 125 ∷ rest) ≡ expanded_behind v n (front ++ 125 ∷ []) ++ expanded v rest
unfolding expanded_behind
divided_close v zero [] rest within =
    read_byte v 125 rest (none_unopened 125 rest refl) ∙ sym (ap (λ xs. xs ++ expanded v rest) (read_byte v 125 [] (none_unopened 125 [] refl)))
divided_close v (suc zero) [] rest within = refl
divided_close v (suc (suc n)) [] rest within = absurd (omega (arith, within))
divided_close v zero (b ∷ front) rest within =
    let whole : ℕ → List ℕ = λ n. expanded_behind v n (front ++ 125 ∷ rest) in
    let part : ℕ → List ℕ = λ n. expanded_behind v n (front ++ 125 ∷ []) in
    let size = length-append front (125 ∷ []) in
    ap (λ o. given_at v b o whole) (same_behind b front rest)
    ∙ given_on v b (placeholder_at (b ∷ (front ++ 125 ∷ []))) whole part (expanded v rest) (divided_close v 0 front rest (omega arith))
    (λ p found. let fits = placeholder_fits b (front ++ 125 ∷ []) p found in
    divided_close v (length (word_text p) + 1) front rest (omega (arith, fits, size)))
divided_close v (suc n) (b ∷ front) rest within = divided_close v n front rest (omega (arith, within))
