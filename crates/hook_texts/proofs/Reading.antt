-- How a text is read: its placeholders, and what is none.
pub use Rattle.std.proofs.lemmas.Bool.{and_left as and_head}
use Rattle.std.proofs.lemmas.Bool.{and_right as and_tail, eqb-false, eqb-true, false_from_ne_true as false_by, ne_eqb}
use Rattle.std.proofs.Common.{◌≡◌, ℕ, ◌+◌, ◌<◌, ◌≤◌, Bool, true, false, not, eqb, cond, List, [], ◌∷◌, ◌++◌, All, length, get_or, take, drop, zero, suc, Option, Some, None, refl, sym, ap, subst, ◌∙◌, append_assoc, arith, ◌&&◌, ◌==◌, find, nat_eq, MatchOption}
use Rattle.std.specs.Borrow.{Bor}
use Rattle.std.specs.List.{after_first, before_first, list_all, position_or_len, starts_with}
use Rattle.std.specs.Str.{bytes_eq}
use Rattle.std.specs.Cmp.Lexicographic.{as_long as pointwise_long, bytes_decides}
use Rattle.std.proofs.lemmas.List.{append-nil, get_or-take, length-append, length-take}
use Rattle.std.proofs.lemmas.List.Elements.{All-head, All-nil, All-tail, All-cons, All-push}
use Rattle.std.proofs.lemmas.List.Sums.{fails_before_first, passes_at_first, split_at_first}
use Rattle.std.proofs.Math.Seq.{drop-append-add}
use Rattle.hook_texts.specs.declared.values.Placeholder.{Placeholder}
use Rattle.hook_texts.specs.declared.values.Placeholder.TheVariants as place
use Rattle.hook_texts.specs.declared.values.Values.{Values}
use Rattle.hook_texts.specs.Expanded.{braced, expanded, expanded_behind, given_at, placeholder_at, placeholder_named, placeholder_text, placeholders, value_of, word_text, IsOtherWord, IsPlain, Lacks}

-- ---- a byte after a text that lacks it

front_fails : (p : ℕ → Bool) (text : List ℕ) → position_or_len p text ≤ length text → All (λ b. p b ≡ false) (before_first p text)
front_fails p text within k d below =
    let least = length-take (position_or_len p text) text in
    let before : k < position_or_len p text = omega (arith, below, least) in
    get-take (position_or_len p text) text k d before (fails_before_first p text k d before)
  where
    get-take : (n : ℕ) (xs : List ℕ) (k d : ℕ) → k < n → p (get_or xs k d) ≡ false → p (get_or (take n xs) k d) ≡ false
    get-take n xs k d before fails = ap p (get_or-take n xs k d before) ∙ fails

-- what `split_once` answers: a text lacks the byte, or is divided by it
pub parted_told : (byte : ℕ) (text : List ℕ) (r : Option (Bor (List ℕ) × Bor (List ℕ)))
    → MatchOption r (position_or_len (λ b. eqb b byte) text ≡ length text)
    (λ x. (position_or_len (λ b. eqb b byte) text < length text) × (x.0.now ≡ before_first (λ b. eqb b byte) text) × (x.1.now ≡ after_first (λ b. eqb b byte) text))
    → MatchOption r (Lacks byte text) (λ x. Lacks byte x.0.now × (text ≡ x.0.now ++ byte ∷ x.1.now))
parted_told byte text None told = λ k d within. fails_before_first (λ b. eqb b byte) text k d (omega (arith, told, within))
parted_told byte text (Some x) told =
    let p : ℕ → Bool = λ b. eqb b byte in
    let is : get_or text (position_or_len p text) 0 ≡ byte = eqb-true _ byte (passes_at_first p text 0 told.0) in
    let whole = split_at_first p text 0 told.0 ∙ ap (λ b. before_first p text ++ b ∷ after_first p text) is in (
      subst (λ xs. Lacks byte xs) (sym told.1) (front_fails p text (omega (arith, told.0))),
      whole ∙ (λ i. sym told.1 i ++ byte ∷ sym told.2 i),
    )

-- ---- finding

pub find_same : {X : Type 0} (p q : X → Bool) → ((x : X) → p x ≡ q x) → (xs : List X) → find p xs ≡ find q xs
find_same p q same [] = refl
find_same p q same (x ∷ xs) = λ i. cond (same x i) (Some x) (find_same p q same xs i)

pub find_none : {X : Type 0} (p : X → Bool) → ((x : X) → p x ≡ false) → (xs : List X) → find p xs ≡ None
find_none p none [] = refl
find_none p none (x ∷ xs) = ap (λ b. cond b (Some x) (find p xs)) (none x) ∙ find_none p none xs

found_passes : {X : Type 0} (p : X → Bool) (b : Bool) (x y : X) (rest : Option X) → p x ≡ b → (rest ≡ Some y → p y ≡ true) → cond b (Some x) rest ≡ Some y → p y ≡ true
found_passes p true x y rest is more e =
    let same : x ≡ y = cc in
    subst (λ z. p z ≡ true) same is
found_passes p false x y rest is more e = more e

pub find_passes : {X : Type 0} (p : X → Bool) (xs : List X) (y : X) → find p xs ≡ Some y → p y ≡ true
find_passes p [] y e = absurd cc
find_passes p (x ∷ xs) y e = found_passes p (p x) x y (find p xs) refl (find_passes p xs y) e

-- ---- beginnings of texts

flipped : (a b : ℕ) → eqb a b ≡ false → eqb b a ≡ false
flipped a b e = ne_eqb b a (λ same. eqb-false a b e (sym same))

-- a word that is closed begins with another if the two are the same
named_at : (w word left : List ℕ) → Lacks 125 w → Lacks 125 word → starts_with nat_eq (word ++ 125 ∷ left) (w ++ 125 ∷ []) ≡ bytes_eq w word
named_at [] [] left own other = refl
named_at [] (x ∷ word) left own other =
    and_head (nat_eq 125 x) _ (flipped x 125 (All-head (λ b. (b == 125) ≡ false) x word other))
named_at (a ∷ w) [] left own other =
    and_head (nat_eq a 125) _ (All-head (λ b. (b == 125) ≡ false) a w own)
named_at (a ∷ w) (x ∷ word) left own other =
    ap (λ b. nat_eq a x && b) (named_at w word left (All-tail (λ b. (b == 125) ≡ false) a w own) (All-tail (λ b. (b == 125) ≡ false) x word other))

-- without a closing brace
unclosed_at : (w text : List ℕ) → Lacks 125 text → starts_with nat_eq text (w ++ 125 ∷ []) ≡ false
unclosed_at [] [] lacks = refl
unclosed_at [] (x ∷ text) lacks =
    and_head (nat_eq 125 x) _ (flipped x 125 (All-head (λ b. (b == 125) ≡ false) x text lacks))
unclosed_at (a ∷ w) [] lacks = refl
unclosed_at (a ∷ w) (x ∷ text) lacks =
    and_tail (nat_eq a x) _ (unclosed_at w text (All-tail (λ b. (b == 125) ≡ false) x text lacks))

-- ---- placeholders

lacks_more : (byte b : ℕ) (word : List ℕ) (c : Bool) → (b == byte) ≡ c → (list_all (λ b. not (b == byte)) word ≡ true → Lacks byte word) → (not c && list_all (λ b. not (b == byte)) word) ≡ true → Lacks byte (b ∷ word)
lacks_more byte b word true is more all = absurd cc
lacks_more byte b word false is more all = All-cons (λ b. (b == byte) ≡ false) b word is (more all)

lacks_by : (byte : ℕ) (word : List ℕ) → list_all (λ b. not (b == byte)) word ≡ true → Lacks byte word
lacks_by byte [] all = All-nil (λ b. (b == byte) ≡ false)
lacks_by byte (b ∷ word) all = lacks_more byte b word (b == byte) refl (lacks_by byte word) all

pub words_unclosed : (p : Placeholder) → Lacks 125 (word_text p)
words_unclosed place.FailureType = lacks_by 125 (word_text place.FailureType) refl
words_unclosed x = lacks_by 125 (word_text x) refl

pub words_unopened : (p : Placeholder) → Lacks 123 (word_text p)
words_unopened place.FailureType = lacks_by 123 (word_text place.FailureType) refl
words_unopened x = lacks_by 123 (word_text x) refl

-- a brace and a word that is closed begin the placeholder of that word
pub word_behind : (word left : List ℕ) → Lacks 125 word → placeholder_at (123 ∷ (word ++ 125 ∷ left)) ≡ placeholder_named word
unfolding placeholder_at
word_behind word left none =
    find_same (λ p. starts_with nat_eq (word ++ 125 ∷ left) (word_text p ++ 125 ∷ [])) (λ p. bytes_eq (word_text p) word)
    (λ p. named_at (word_text p) word left (words_unclosed p) none) placeholders

pub named_is : (word : List ℕ) (p : Placeholder) → placeholder_named word ≡ Some p → word_text p ≡ word
named_is word p e = (bytes_decides (word_text p) word).0 (find_passes (λ q. bytes_eq (word_text q) word) placeholders p e)

pub none_unclosed : (text : List ℕ) → Lacks 125 text → placeholder_at text ≡ None
unfolding placeholder_at
none_unclosed text none = find_none (λ p. starts_with nat_eq text (placeholder_text p)) (λ p. unclosed_at (123 ∷ word_text p) text none) placeholders

pub none_unopened : (b : ℕ) (text : List ℕ) → (b == 123) ≡ false → placeholder_at (b ∷ text) ≡ None
unfolding placeholder_at
none_unopened b text other =
    find_none (λ p. starts_with nat_eq (b ∷ text) (placeholder_text p)) (λ p. and_head (nat_eq 123 b) _ (flipped b 123 other)) placeholders

pub placeholder_found : (p : Placeholder) (rest : List ℕ) → placeholder_at (placeholder_text p ++ rest) ≡ Some p
unfolding placeholder_at
placeholder_found place.FailureType rest = refl
placeholder_found _ rest = refl

-- a text is longer than the placeholder with which it begins
pub placeholder_fits : (b : ℕ) (text : List ℕ) (p : Placeholder) → placeholder_at (b ∷ text) ≡ Some p → length (word_text p) + 1 ≤ length text
unfolding placeholder_at
placeholder_fits b text p e =
    let begins = find_passes (λ q. starts_with nat_eq (b ∷ text) (placeholder_text q)) placeholders p e in
    let long = pointwise_long nat_eq (placeholder_text p) (take (length (placeholder_text p)) (b ∷ text)) begins in
    let least = length-take (length (placeholder_text p)) (b ∷ text) in
    let size = length-append (word_text p) (125 ∷ []) in
    omega (arith, long, least, size)

-- if a closing brace follows, the name before it decides
pub at_word : (behind word left : List ℕ) → Lacks 125 word → behind ≡ word ++ 125 ∷ left → placeholder_at (123 ∷ behind) ≡ placeholder_named word
at_word behind word left lacks e = ap (λ t. placeholder_at (123 ∷ t)) e ∙ word_behind word left lacks

pub at_unclosed : (behind : List ℕ) → Lacks 125 behind → placeholder_at (123 ∷ behind) ≡ None
at_unclosed behind lacks = none_unclosed (123 ∷ behind) (All-cons (λ b. (b == 125) ≡ false) 123 behind refl lacks)

pub braced_back : (behind word left : List ℕ) (p : Placeholder) → behind ≡ word ++ 125 ∷ left → placeholder_named word ≡ Some p → 123 ∷ behind ≡ placeholder_text p ++ left
braced_back behind word left p e named =
    ap (λ t. 123 ∷ t) (e ∙ ap (λ w. w ++ 125 ∷ left) (sym (named_is word p named)) ∙ sym (append_assoc (word_text p) (125 ∷ []) left))

-- ---- reading

pub passed_over : (v : Values) (n : ℕ) (text : List ℕ) → expanded_behind v n text ≡ expanded v (drop n text)
unfolding expanded_behind
passed_over v zero [] = refl
passed_over v zero (b ∷ text) = refl
passed_over v (suc n) [] = refl
passed_over v (suc n) (b ∷ text) = passed_over v n text

pub read_byte : (v : Values) (b : ℕ) (text : List ℕ) → placeholder_at (b ∷ text) ≡ None → expanded v (b ∷ text) ≡ b ∷ expanded v text
unfolding expanded_behind
read_byte v b text nothing = ap (λ p. given_at v b p (λ n. expanded_behind v n text)) nothing

found_there : (v : Values) (p : Placeholder) (b : ℕ) (text : List ℕ) → placeholder_at (b ∷ text) ≡ Some p → expanded v (b ∷ text) ≡ value_of v p ++ expanded_behind v (length (word_text p) + 1) text
unfolding expanded_behind
found_there v p b text found = ap (λ o. given_at v b o (λ n. expanded_behind v n text)) found

pub read_placeholder : (v : Values) (p : Placeholder) (rest : List ℕ) → expanded v (placeholder_text p ++ rest) ≡ value_of v p ++ expanded v rest
read_placeholder v p rest =
    let behind : List ℕ = (word_text p ++ 125 ∷ []) ++ rest in
    let left : drop (length (word_text p) + 1) behind ≡ rest =
    ap (λ t. drop (length (word_text p) + 1) t) (append_assoc (word_text p) (125 ∷ []) rest) ∙ drop-append-add (word_text p) (125 ∷ rest) 1 in
    found_there v p 123 behind (placeholder_found p rest)
    ∙ ap (λ xs. value_of v p ++ xs) (passed_over v (length (word_text p) + 1) behind ∙ ap (λ t. expanded v t) left)

pub plain_front : (v : Values) (front text : List ℕ) → IsPlain front → expanded v (front ++ text) ≡ front ++ expanded v text
plain_front v [] text plain = refl
plain_front v (b ∷ front) text plain =
    read_byte v b (front ++ text) (none_unopened b (front ++ text) (All-head (λ b. (b == 123) ≡ false) b front plain))
    ∙ ap (λ xs. b ∷ xs) (plain_front v front text (All-tail (λ b. (b == 123) ≡ false) b front plain))

nothing_left : (v : Values) → expanded v [] ≡ []
unfolding expanded_behind
nothing_left v = refl

pub plain_stays : (v : Values) (text : List ℕ) → IsPlain text → expanded v text ≡ text
plain_stays v text plain =
    ap (λ t. expanded v t) (sym (append-nil text)) ∙ plain_front v text [] plain ∙ ap (λ xs. text ++ xs) (nothing_left v) ∙ append-nil text

pub unclosed_stays : (v : Values) (text : List ℕ) → Lacks 125 text → expanded v text ≡ text
unclosed_stays v [] lacks = nothing_left v
unclosed_stays v (b ∷ text) lacks =
    read_byte v b text (none_unclosed (b ∷ text) lacks) ∙ ap (λ xs. b ∷ xs) (unclosed_stays v text (All-tail (λ b. (b == 125) ≡ false) b text lacks))

pub between_stays : (v : Values) (p q : Placeholder) (between rest : List ℕ) → IsPlain between
    → expanded v (placeholder_text p ++ (between ++ (placeholder_text q ++ rest))) ≡ value_of v p ++ (between ++ (value_of v q ++ expanded v rest))
between_stays v p q between rest plain =
    read_placeholder v p (between ++ (placeholder_text q ++ rest))
    ∙ ap (λ xs. value_of v p ++ xs) (plain_front v between (placeholder_text q ++ rest) plain ∙ ap (λ xs. between ++ xs) (read_placeholder v q rest))

other_named : (word : List ℕ) → IsOtherWord word → placeholder_named word ≡ None
other_named word is =
    find_none (λ p. bytes_eq (word_text p) word) (λ p. false_by (bytes_eq (word_text p) word) (λ same. is.other p ((bytes_decides (word_text p) word).0 same))) placeholders

pub other_stays : (v : Values) (word rest : List ℕ) → IsOtherWord word → expanded v (braced word ++ rest) ≡ braced word ++ expanded v rest
other_stays v word rest is =
    let none : placeholder_at (123 ∷ ((word ++ 125 ∷ []) ++ rest)) ≡ None =
    at_word ((word ++ 125 ∷ []) ++ rest) word rest is.unclosed (append_assoc word (125 ∷ []) rest) ∙ other_named word is in
    read_byte v 123 ((word ++ 125 ∷ []) ++ rest) none
    ∙ ap (λ xs. 123 ∷ xs) (plain_front v (word ++ 125 ∷ []) rest (All-push (λ b. (b == 123) ≡ false) word 125 is.unopened refl))

-- ---- steps of the code

pub pushed_value : (v : Values) (p : Placeholder) (out new value left text : List ℕ) → new ≡ out ++ value → value ≡ value_of v p → text ≡ placeholder_text p ++ left
    → new ++ expanded v left ≡ out ++ expanded v text
pushed_value v p out new value left text pushed is e =
    ap (λ xs. xs ++ expanded v left) (pushed ∙ ap (λ xs. out ++ xs) is)
    ∙ append_assoc out (value_of v p) (expanded v left)
    ∙ ap (λ xs. out ++ xs) (sym (ap (λ t. expanded v t) e ∙ read_placeholder v p left))

pub pushed_brace : (v : Values) (out new behind : List ℕ) → new ≡ out ++ 123 ∷ [] → placeholder_at (123 ∷ behind) ≡ None → new ++ expanded v behind ≡ out ++ expanded v (123 ∷ behind)
pushed_brace v out new behind pushed none =
    ap (λ xs. xs ++ expanded v behind) pushed
    ∙ append_assoc out (123 ∷ []) (expanded v behind)
    ∙ ap (λ xs. out ++ xs) (sym (read_byte v 123 behind none))

-- a text up to an opening brace, what the brace gives, and what is left
pub read_on : (v : Values) (out pushed new before behind text left whole : List ℕ) → pushed ≡ out ++ before → new ++ expanded v left ≡ pushed ++ expanded v (123 ∷ behind)
    → Lacks 123 before → text ≡ before ++ 123 ∷ behind → out ++ expanded v text ≡ whole → new ++ expanded v left ≡ whole
read_on v out pushed new before behind text left whole first next plain e so_far =
    next
    ∙ ap (λ xs. xs ++ expanded v (123 ∷ behind)) first
    ∙ append_assoc out before (expanded v (123 ∷ behind))
    ∙ ap (λ xs. out ++ xs) (sym (ap (λ t. expanded v t) e ∙ plain_front v before (123 ∷ behind) plain))
    ∙ so_far

pub read_out : (v : Values) (out new text whole : List ℕ) → new ≡ out ++ text → Lacks 123 text → out ++ expanded v text ≡ whole → new ≡ whole
read_out v out new text whole pushed plain so_far = pushed ∙ ap (λ xs. out ++ xs) (sym (plain_stays v text plain)) ∙ so_far

pub left_behind : (p : Placeholder) (behind left : List ℕ) → 123 ∷ behind ≡ placeholder_text p ++ left → length left ≤ length behind
left_behind p behind left e = omega (arith, ap length e, length-append (word_text p ++ 125 ∷ []) left)
