-- A text is divided at its last colon.
use Rattle.std.proofs.Common.{◌≡◌, ◌≢◌, ℕ, zero, suc, ◌+◌, ◌-◌, ◌<◌, ◌≤◌, true, false, not, List, [], ◌∷◌, ◌++◌, length, take, drop, get_or, Option, Some, None, refl, sym, ap, ◌∙◌, subst, arith, inl, inr, ⊎_elim, ◌⊎◌, MatchOption}
use Rattle.binlog_coords.proofs.Prelude.{Bor, NoCharPasses-char, RFindsChar, after_last, append_assoc, before_last, cases_eq, drop_at, drop_at_char}
use Rattle.binlog_coords.proofs.Prelude.{false≢true, get_or-append_right, get_or_at, is_colon, length-append, list_any, list_any-append, ne_eqb}
use Rattle.binlog_coords.proofs.Prelude.{not_from_false, or_from, or_right, suffix_len, suffix_len_is, take-append-drop, take_at}

abbrev pub NoColons : List ℕ → Type 0
NoColons text = (i : ℕ) → i < length text → get_or text i 0 ≢ 58

-- what is before and after the last colon of a text
pub record IsDivided (text front back : List ℕ) : Type 0 where
  pub whole : text ≡ front ++ 58 ∷ back
  pub last : NoColons back

-- after the last colon each byte is another
suffix_len-colon : (front back : List ℕ) → NoColons back → suffix_len (λ b. not (is_colon b)) (front ++ 58 ∷ back) ≡ length back
suffix_len-colon front back none =
    let text = front ++ 58 ∷ back in
    let long : length text ≡ length front + 1 + length back = omega (arith, length-append front (58 ∷ back)) in
    let split : front ++ 58 ∷ [] ++ back ≡ text = append_assoc front (58 ∷ []) back in
    let behind : (k : ℕ) → length front + 1 ≤ k → get_or text k 0 ≡ get_or back (k - (length front + 1)) 0 = λ k low. ap (λ (l : List ℕ). get_or l k 0) (sym split) ∙ get_or-append_right (front ++ 58 ∷ []) back (length front + 1) k 0 (length-append front (58 ∷ [])) low in
    let passes : (k : ℕ) → length front + 1 ≤ k → k < length text → not (is_colon (get_or text k 0)) ≡ true = λ k low high.
    not_from_false _ (ne_eqb _ 58 (λ e. none (k - (length front + 1)) (omega arith) (sym (behind k low) ∙ e))) in
    let at : get_or text (length front) 0 ≡ 58 = get_or_at front 58 back 0 (length front) refl in
    let stops : get_or text (length front + 1 - 1) 0 ≡ 58 = ap (λ (n : ℕ). get_or text n 0) (omega arith) ∙ at in
    omega (arith, suffix_len_is (λ b. not (is_colon b)) text (length front + 1) 0 (omega arith) passes (λ _. ap (λ (b : ℕ). not (is_colon b)) stops))

pub before_last-colon : (front back : List ℕ) → NoColons back → before_last is_colon (front ++ 58 ∷ back) ≡ front
before_last-colon front back none = take_at front (58 ∷ back) _ (omega (arith, suffix_len-colon front back none, length-append front (58 ∷ back)))

pub after_last-colon : (front back : List ℕ) → NoColons back → after_last is_colon (front ++ 58 ∷ back) ≡ back
after_last-colon front back none =
    let past : length (front ++ 58 ∷ []) ≡ length (front ++ 58 ∷ back) - suffix_len (λ b. not (is_colon b)) (front ++ 58 ∷ back) = omega (arith, suffix_len-colon front back none, length-append front (58 ∷ back), length-append front (58 ∷ [])) in
    ap (drop (length (front ++ 58 ∷ back) - suffix_len (λ b. not (is_colon b)) (front ++ 58 ∷ back))) (sym (append_assoc front (58 ∷ []) back)) ∙ drop_at (front ++ 58 ∷ []) back _ past

pub list_any-colon : (front back : List ℕ) → list_any is_colon (front ++ 58 ∷ back) ≡ true
list_any-colon front back = list_any-append is_colon front (58 ∷ back) ∙ or_right (list_any is_colon front) true refl

pub list_any-NoColons : (text : List ℕ) → NoColons text → list_any is_colon text ≡ false
list_any-NoColons [] none = refl
list_any-NoColons (b ∷ text) none = or_from (is_colon b) (list_any is_colon text) (ne_eqb b 58 (none 0 (omega arith))) (list_any-NoColons text (λ i l. none (suc i) (omega arith)))

more_without : (b : ℕ) (text : List ℕ) → b ≢ 58 → NoColons text → NoColons (b ∷ text)
more_without b text other none zero l = other
more_without b text other none (suc i) l = none i (omega arith)

-- a text has no colon, or is divided
pub divides : (text : List ℕ) → NoColons text ⊎ ((front : List ℕ) × (back : List ℕ) × IsDivided text front back)
divides [] = inl (λ i l. absurd (omega arith))
divides (b ∷ text) = ⊎_elim
    (λ none. ⊎_elim
    (λ e. inr ([], text, record { whole = ap (λ (x : ℕ). x ∷ text) e; last = none }))
    (λ other. inl (more_without b text other none))
    (cases_eq b 58))
    (λ p. inr (b ∷ p.0, p.1, record { whole = ap (λ (l : List ℕ). b ∷ l) p.2.whole; last = p.2.last }))
    (divides text)

-- a text with a colon is what is before the last one, that colon, and what is after it
pub rejoined : (text : List ℕ) → list_any is_colon text ≡ true → text ≡ before_last is_colon text ++ 58 ∷ after_last is_colon text
rejoined text some = ⊎_elim
    (λ none. absurd (false≢true (sym (list_any-NoColons text none) ∙ some)))
    (λ p.
    let front : before_last is_colon text ≡ p.0 = ap (before_last is_colon) p.2.whole ∙ before_last-colon p.0 p.1 p.2.last in
    let back : after_last is_colon text ≡ p.1 = ap (after_last is_colon) p.2.whole ∙ after_last-colon p.0 p.1 p.2.last in
    p.2.whole ∙ (λ i. sym front i ++ 58 ∷ sym back i))
    (divides text)

-- what `rsplit_once(':')` answers
abbrev pub IsSplit : List ℕ → Option (Bor (List ℕ) × Bor (List ℕ)) → Type 0
IsSplit text r = MatchOption r (RFindsChar 58 text None) (λ x. (i : ℕ) × (j : ℕ) × RFindsChar 58 text (Some (i, j)) × (x.0.now ≡ take i text) × (x.1.now ≡ drop j text) × (i ≤ j) × (length x.0.now ≡ i) × (length x.1.now + j ≡ length text))

pub split_divides : (text : List ℕ) (r : Option (Bor (List ℕ) × Bor (List ℕ))) → IsSplit text r → MatchOption r (NoColons text) (λ x. IsDivided text x.0.now x.1.now)
split_divides text None h = λ i l. NoCharPasses-char 58 text i h (omega arith) l
split_divides text (Some x) h = record {
  whole = sym (take-append-drop h.0 text) ∙ (λ k. sym h.3 k ++ (drop_at_char 58 text h.0 h.1 h.2.1 (omega arith) ∙ ap (λ (l : List ℕ). 58 ∷ l) (sym h.4)) k);
  last = λ i l. NoCharPasses-char 58 x.1.now i (subst (λ (l : List ℕ). RFindsChar 58 l None) (sym h.4) h.2.0) (omega arith) l;
}

-- what the two halves are
pub halves_are : (text : List ℕ) (r : Option (Bor (List ℕ) × Bor (List ℕ))) → MatchOption r (NoColons text) (λ x. IsDivided text x.0.now x.1.now) → MatchOption r (list_any is_colon text ≡ false) (λ p. (list_any is_colon text ≡ true) × (p.0.now ≡ before_last is_colon text) × (p.1.now ≡ after_last is_colon text))
halves_are text None none = list_any-NoColons text none
halves_are text (Some x) h = (
  ap (list_any is_colon) h.whole ∙ list_any-colon x.0.now x.1.now,
  sym (ap (before_last is_colon) h.whole ∙ before_last-colon x.0.now x.1.now h.last),
  sym (ap (after_last is_colon) h.whole ∙ after_last-colon x.0.now x.1.now h.last),
)
