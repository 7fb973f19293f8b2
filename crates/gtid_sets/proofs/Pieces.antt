-- Texts that are divided.
use Rattle.std.proofs.Common.{◌≡◌, ℕ, suc, ◌+◌, ◌-◌, ◌*◌, ◌^◌, ◌<◌, ◌≤◌, inl, inr, Bool, true, false, cond, eqb, ltb, min, not, List, [], ◌∷◌, ◌++◌, length, take, drop, Option, Some, None, Ok, Err, Result, refl, sym, ap, ◌∙◌, subst, append_assoc, append-nil, drop-drop, arith}
use Rattle.std.specs.Prelude.{⊤, ◌||◌, MatchOption, option_map, position, unwrap_or}
use Rattle.gtid_sets.proofs.Prelude.{BadInterval, BadUuid, GtidFault, Interval, Memory, TooLarge, Zero, begin_of, behind, cases_lt, end_of, fault_of}
use Rattle.gtid_sets.proofs.Prelude.{filled_at, inner, interval_at, interval_of, intervals_at, is_colon, is_comma, largest, le-ltb, leading}
use Rattle.gtid_sets.proofs.Prelude.{length-take-le, listed_at, lt-ltb, nat_tests, number_at, number_or, onto_first, parsed, parsed_hyphenated}
use Rattle.gtid_sets.proofs.Prelude.{part_at, parts_at, pieces, position_or_len, take_all, text_at, uuid_or}
use Rattle.gtid_sets.specs.Gives.{◌>>=◌}

first_or_more : (b : Bool) (m n : ℕ) → m ≤ n → cond b (1 + m) 0 ≤ suc n
first_or_more true m n h = omega arith
first_or_more false m n h = omega arith

pub length_within : (p : ℕ → Bool) (xs : List ℕ) → position_or_len p xs ≤ length xs
length_within p [] = omega arith
length_within p (x ∷ xs) = first_or_more (not (p x)) _ _ (length_within p xs)

pub position_is : (p : ℕ → Bool) (xs : List ℕ) → unwrap_or (position p xs) (length xs) ≡ position_or_len p xs
position_is p xs =
    let within = length_within p xs in
    elim (cases_lt (position_or_len p xs) (length xs)) [
      | inl less ↦ rw (lt-ltb _ _ less) refl
      | inr more ↦ rw (le-ltb _ _ more) (omega arith)
    ]

-- one more digit
step_value : (v d m : ℕ) → min (min (min v m * 10) m + d) m ≡ min (v * 10 + d) m
step_value v d m = omega arith

-- a text up to the first offset that divides it, and the rest
piece_end : (p : ℕ → Bool) (x : ℕ) (xs : List ℕ) (b : Bool) → p x ≡ b → cond (not b) (1 + position_or_len p xs) 0 ≡ suc (length xs) → (position_or_len p xs ≡ length xs → pieces p xs ≡ xs ∷ [])
    → cond b ([] ∷ pieces p xs) (onto_first x (pieces p xs)) ≡ (x ∷ xs) ∷ []
piece_end p x xs true e h more = absurd (omega arith)
piece_end p x xs false e h more = rw (more (omega arith)) refl

pub pieces_end : (p : ℕ → Bool) (xs : List ℕ) → position_or_len p xs ≡ length xs → pieces p xs ≡ xs ∷ []
pieces_end p [] e = refl
pieces_end p (x ∷ xs) e = piece_end p x xs (p x) refl e (pieces_end p xs)

piece_more : (p : ℕ → Bool) (x : ℕ) (xs : List ℕ) (b : Bool) → p x ≡ b → cond (not b) (1 + position_or_len p xs) 0 < suc (length xs)
    → (position_or_len p xs < length xs → pieces p xs ≡ take (position_or_len p xs) xs ∷ pieces p (drop (position_or_len p xs + 1) xs))
    → cond b ([] ∷ pieces p xs) (onto_first x (pieces p xs)) ≡ take (cond (not b) (1 + position_or_len p xs) 0) (x ∷ xs) ∷ pieces p (drop (cond (not b) (1 + position_or_len p xs) 0 + 1) (x ∷ xs))
piece_more p x xs true e h more = refl
piece_more p x xs false e h more =
    let k = position_or_len p xs in
    let a : 1 + k ≡ suc k = omega arith in
    let b : suc k + 1 ≡ suc (k + 1) = omega arith in
    rw (more (omega arith), a, b) refl

pub pieces_more : (p : ℕ → Bool) (xs : List ℕ) → position_or_len p xs < length xs
    → pieces p xs ≡ take (position_or_len p xs) xs ∷ pieces p (drop (position_or_len p xs + 1) xs)
pieces_more p [] h = absurd (omega arith)
pieces_more p (x ∷ xs) h = piece_more p x xs (p x) refl h (pieces_more p xs)

at_36 : (s : List ℕ) → length s ≡ 36 → parsed s ≡ parsed_hyphenated s
at_36 s len = rw len refl

no_uuid : (offset : ℕ) (r : Option (List ℕ)) → ((u : List ℕ) → r ≡ Some u → ⊥) → Err (BadUuid offset) ≡ uuid_or offset r
no_uuid offset None h = refl
no_uuid offset (Some u) h = absurd (h u refl)

-- a UUID that does not parse
pub uuid_none : (s : List ℕ) (offset : ℕ) → length s ≡ 36 → ((u : List ℕ) → parsed s ≡ Some u → ⊥) → Err (BadUuid offset) ≡ uuid_or offset (parsed_hyphenated s)
uuid_none s offset len none = no_uuid offset (parsed_hyphenated s) (λ u e. none u (at_36 s len ∙ e))

abbrev last_test : ℕ → ℕ → ℕ → ℕ → Result Interval GtidFault
last_test u p a b = cond (ltb b a) (Err (BadInterval p)) (Ok (record { uuid = u; first = a; last = b }))

too_large : (c : Bool) (u p a b : ℕ) → cond (c || true) (Err (TooLarge p)) (last_test u p (min a (2 ^ 64 - 1)) (min b (2 ^ 64 - 1))) ≡ cond (c || true) (Err (TooLarge p)) (last_test u p a b)
too_large true u p a b = refl
too_large false u p a b = refl

large_or_not : (u p a b : ℕ)
    → cond (ltb largest a || ltb largest b) (Err (TooLarge p)) (last_test u p (min a (2 ^ 64 - 1)) (min b (2 ^ 64 - 1)))
    ≡ cond (ltb largest a || ltb largest b) (Err (TooLarge p)) (last_test u p a b)
large_or_not u p a b = elim (cases_lt largest a) [
  | inl over ↦ rw (lt-ltb largest a over) refl
  | inr fits_a ↦ elim (cases_lt largest b) [
    | inl over ↦ rw (lt-ltb largest b over) (too_large (ltb largest a) u p a b)
    | inr fits_b ↦
        let same_a : min a (2 ^ 64 - 1) ≡ a = omega arith in
        let same_b : min b (2 ^ 64 - 1) ≡ b = omega arith in
        rw (same_a, same_b) refl
  ]
]

either_way : (u p a b : ℕ) (zero_one : Bool)
    → cond zero_one (Err (Zero p)) (cond (ltb largest a || ltb largest b) (Err (TooLarge p)) (last_test u p (min a (2 ^ 64 - 1)) (min b (2 ^ 64 - 1))))
    ≡ cond zero_one (Err (Zero p)) (cond (ltb largest a || ltb largest b) (Err (TooLarge p)) (last_test u p a b))
either_way u p a b true = refl
either_way u p a b false = large_or_not u p a b

-- numbers past the largest of 64 bits are too large without a cut, too
capped : (u p a b : ℕ) → interval_of u p (min a (2 ^ 64 - 1)) (min b (2 ^ 64 - 1)) ≡ interval_of u p a b
capped u p a b =
    let zero_a : eqb (min a (2 ^ 64 - 1)) 0 ≡ eqb a 0 = grind (arith, nat_tests) in
    let zero_b : eqb (min b (2 ^ 64 - 1)) 0 ≡ eqb b 0 = grind (arith, nat_tests) in
    let past_a : ltb largest (min a (2 ^ 64 - 1)) ≡ ltb largest a = grind (arith, nat_tests) in
    let past_b : ltb largest (min b (2 ^ 64 - 1)) ≡ ltb largest b = grind (arith, nat_tests) in
    rw (zero_a, zero_b, past_a, past_b) (either_way u p a b (eqb a 0 || eqb b 0))

both_read : (u p f l : ℕ) (a b : Option ℕ) → Some f ≡ option_map (λ n. min n (2 ^ 64 - 1)) a → Some l ≡ option_map (λ n. min n (2 ^ 64 - 1)) b
    → interval_of u p f l ≡ (number_or p a >>= (λ first. number_or p b >>= (λ last. interval_of u p first last)))
both_read u p f l (Some a) (Some b) e g = let x : f ≡ min a (2 ^ 64 - 1) = cc in let y : l ≡ min b (2 ^ 64 - 1) = cc in rw (x, y) (capped u p a b)
both_read u p f l (Some a) None e g = absurd (cc)
both_read u p f l None b e g = absurd (cc)

pub read_both : (u p : ℕ) (t : List ℕ) (f l : ℕ) → Some f ≡ option_map (λ n. min n (2 ^ 64 - 1)) (number_at (begin_of t)) → Some l ≡ option_map (λ n. min n (2 ^ 64 - 1)) (number_at (end_of t))
    → interval_of u p f l ≡ interval_at u p t
unfolding interval_at
read_both u p t f l e g = both_read u p f l (number_at (begin_of t)) (number_at (end_of t)) e g

none_first : (u p : ℕ) (a b : Option ℕ) → None ≡ option_map (λ n. min n (2 ^ 64 - 1)) a → Err (BadInterval p) ≡ (number_or p a >>= (λ first. number_or p b >>= (λ last. interval_of u p first last)))
none_first u p None b e = refl
none_first u p (Some a) b e = absurd (cc)

pub read_no_first : (u p : ℕ) (t : List ℕ) → None ≡ option_map (λ n. min n (2 ^ 64 - 1)) (number_at (begin_of t)) → Err (BadInterval p) ≡ interval_at u p t
unfolding interval_at
read_no_first u p t e = none_first u p (number_at (begin_of t)) (number_at (end_of t)) e

none_last : (u p f : ℕ) (a b : Option ℕ) → Some f ≡ option_map (λ n. min n (2 ^ 64 - 1)) a → None ≡ option_map (λ n. min n (2 ^ 64 - 1)) b → Err (BadInterval p) ≡ (number_or p a >>= (λ first. number_or p b >>= (λ last. interval_of u p first last)))
none_last u p f (Some a) None e g = refl
none_last u p f (Some a) (Some b) e g = absurd (cc)
none_last u p f None b e g = absurd (cc)

pub read_no_last : (u p f : ℕ) (t : List ℕ) → Some f ≡ option_map (λ n. min n (2 ^ 64 - 1)) (number_at (begin_of t)) → None ≡ option_map (λ n. min n (2 ^ 64 - 1)) (number_at (end_of t))
    → Err (BadInterval p) ≡ interval_at u p t
unfolding interval_at
read_no_last u p f t e g = none_last u p f (number_at (begin_of t)) (number_at (end_of t)) e g

pub fault_given : (e : GtidFault) (read : Result (List Interval) GtidFault) → read ≡ Err e → MatchOption (fault_of e) ⊤ (λ f. read ≡ Err f)
fault_given Memory read h = tt
fault_given _ read h = h

behind_more : (found : List Interval) (one : Interval) (r : Result (List Interval) GtidFault) → behind found (r >>= (λ more. Ok (one ∷ more))) ≡ behind (found ++ one ∷ []) r
behind_more found one (Ok more) = ap Ok (sym (append_assoc found (one ∷ []) more))
behind_more found one (Err e) = refl

-- the next interval
pub one_more : (u p : ℕ) (t : List ℕ) (ts : List (List ℕ)) (found : List Interval) (one : Interval) → interval_at u p t ≡ Ok one
    → behind found (intervals_at u p (t ∷ ts)) ≡ behind (found ++ one ∷ []) (intervals_at u (p + length t + 1) ts)
unfolding intervals_at
one_more u p t ts found one e = rw e (behind_more found one (intervals_at u (p + length t + 1) ts))

pub one_last : (u p : ℕ) (t : List ℕ) (found : List Interval) (one : Interval) → interval_at u p t ≡ Ok one → behind found (intervals_at u p (t ∷ [])) ≡ Ok (found ++ one ∷ [])
unfolding intervals_at
one_last u p t found one e = rw e refl

pub one_fails : (u p : ℕ) (t : List ℕ) (ts : List (List ℕ)) (found : List Interval) (e : GtidFault) → interval_at u p t ≡ Err e → behind found (intervals_at u p (t ∷ ts)) ≡ Err e
unfolding intervals_at
one_fails u p t ts found e h = rw h refl

pub text_ends : (text : List ℕ) (n : ℕ) → n ≡ length text → take n text ≡ text
text_ends text n e = take_all n text (omega arith)

pub part_len : (text : List ℕ) (n : ℕ) → n ≤ length text → length (take n text) ≡ n
part_len text n h = length-take-le n text h

pub drop_more : (text : List ℕ) (i n : ℕ) → drop n (drop i text) ≡ drop (i + n) text
drop_more text i n = drop-drop n i text

-- the text up to the next colon, and what follows
pub interval_last : (u p : ℕ) (rest : List ℕ) (len : ℕ) (found : List Interval) (one : Interval) → len ≡ position_or_len is_colon rest → len ≡ length rest
    → Ok one ≡ interval_at u p (take len rest) → behind found (intervals_at u p (pieces is_colon rest)) ≡ Ok (found ++ one ∷ [])
interval_last u p rest len found one at end read =
    let e : pieces is_colon rest ≡ rest ∷ [] = pieces_end is_colon rest (sym at ∙ end) in
    rw e (one_last u p rest found one (sym (read ∙ ap (interval_at u p) (text_ends rest len end))))

pub interval_more : (u p : ℕ) (rest : List ℕ) (len : ℕ) (found : List Interval) (one : Interval) → len ≡ position_or_len is_colon rest → len < length rest
    → Ok one ≡ interval_at u p (take len rest) → behind found (intervals_at u p (pieces is_colon rest)) ≡ behind (found ++ one ∷ []) (intervals_at u (p + len + 1) (pieces is_colon (drop (len + 1) rest)))
interval_more u p rest len found one at less read =
    let e : pieces is_colon rest ≡ take len rest ∷ pieces is_colon (drop (len + 1) rest) = subst (λ (n : ℕ). pieces is_colon rest ≡ take n rest ∷ pieces is_colon (drop (n + 1) rest)) (sym at) (pieces_more is_colon rest (omega arith)) in
    let n : length (take len rest) ≡ len = part_len rest len (omega arith) in
    let f = one_more u p (take len rest) (pieces is_colon (drop (len + 1) rest)) found one (sym read) in
    rw e (rw n at f)

pub interval_fails : (u p : ℕ) (rest : List ℕ) (len : ℕ) (found : List Interval) (fault : GtidFault) → len ≡ position_or_len is_colon rest → len ≤ length rest
    → Err fault ≡ interval_at u p (take len rest) → behind found (intervals_at u p (pieces is_colon rest)) ≡ Err fault
interval_fails u p rest len found fault at within read =
    elim (cases_lt len (length rest)) [
      | inl less ↦
          let e : pieces is_colon rest ≡ take len rest ∷ pieces is_colon (drop (len + 1) rest) = subst (λ (n : ℕ). pieces is_colon rest ≡ take n rest ∷ pieces is_colon (drop (n + 1) rest)) (sym at) (pieces_more is_colon rest (omega arith)) in
          rw e (one_fails u p (take len rest) (pieces is_colon (drop (len + 1) rest)) found fault (sym read))
      | inr more ↦
          let end : len ≡ length rest = omega arith in
          let e : pieces is_colon rest ≡ rest ∷ [] = pieces_end is_colon rest (sym at ∙ end) in
          rw e (one_fails u p rest [] found fault (sym (read ∙ ap (interval_at u p) (text_ends rest len end))))
    ]

part_behind : (found next : List Interval) (these r : Result (List Interval) GtidFault) → behind found these ≡ Ok next
    → behind found (these >>= (λ xs. r >>= (λ more. Ok (xs ++ more)))) ≡ behind next r
part_behind found next (Ok xs) (Ok more) e = let h : found ++ xs ≡ next = cc in ap Ok (sym (append_assoc found xs more) ∙ ap (λ (ys : List Interval). ys ++ more) h)
part_behind found next (Ok xs) (Err f) e = refl
part_behind found next (Err f) r e = absurd (cc)

part_end : (found next : List Interval) (these : Result (List Interval) GtidFault) → behind found these ≡ Ok next → behind found (these >>= (λ xs. Ok (xs ++ []))) ≡ Ok next
part_end found next (Ok xs) e = ap (λ (ys : List Interval). Ok (found ++ ys)) (append-nil xs) ∙ e
part_end found next (Err f) e = absurd (cc)

part_fault : (found : List Interval) (these r : Result (List Interval) GtidFault) (f : GtidFault) → behind found these ≡ Err f → behind found (these >>= (λ xs. r >>= (λ more. Ok (xs ++ more)))) ≡ Err f
part_fault found (Ok xs) r f e = absurd (cc)
part_fault found (Err g) r f e = e

pub part_last : (p : ℕ) (rest : List ℕ) (len : ℕ) (found next : List Interval) → len ≡ position_or_len is_comma rest → len ≡ length rest
    → behind found (part_at p (take len rest)) ≡ Ok next → behind found (parts_at p (pieces is_comma rest)) ≡ Ok next
unfolding parts_at
part_last p rest len found next at end read =
    let e : pieces is_comma rest ≡ rest ∷ [] = pieces_end is_comma rest (sym at ∙ end) in
    rw e (part_end found next (part_at p rest) (ap (λ (t : List ℕ). behind found (part_at p t)) (sym (text_ends rest len end)) ∙ read))

pub part_more : (p : ℕ) (rest : List ℕ) (len : ℕ) (found next : List Interval) → len ≡ position_or_len is_comma rest → len < length rest
    → behind found (part_at p (take len rest)) ≡ Ok next → behind found (parts_at p (pieces is_comma rest)) ≡ behind next (parts_at (p + len + 1) (pieces is_comma (drop (len + 1) rest)))
unfolding parts_at
part_more p rest len found next at less read =
    let e : pieces is_comma rest ≡ take len rest ∷ pieces is_comma (drop (len + 1) rest) = subst (λ (n : ℕ). pieces is_comma rest ≡ take n rest ∷ pieces is_comma (drop (n + 1) rest)) (sym at) (pieces_more is_comma rest (omega arith)) in
    let n : length (take len rest) ≡ len = part_len rest len (omega arith) in
    rw (e, n) (part_behind found next (part_at p (take len rest)) (parts_at (p + len + 1) (pieces is_comma (drop (len + 1) rest))) read)

pub part_fails : (p : ℕ) (rest : List ℕ) (len : ℕ) (found : List Interval) (fault : GtidFault) → len ≡ position_or_len is_comma rest → len ≤ length rest
    → behind found (part_at p (take len rest)) ≡ Err fault → behind found (parts_at p (pieces is_comma rest)) ≡ Err fault
unfolding parts_at
part_fails p rest len found fault at within read =
    elim (cases_lt len (length rest)) [
      | inl less ↦
          let e : pieces is_comma rest ≡ take len rest ∷ pieces is_comma (drop (len + 1) rest) = subst (λ (n : ℕ). pieces is_comma rest ≡ take n rest ∷ pieces is_comma (drop (n + 1) rest)) (sym at) (pieces_more is_comma rest (omega arith)) in
          rw e (part_fault found (part_at p (take len rest)) _ fault read)
      | inr more ↦
          let end : len ≡ length rest = omega arith in
          let e : pieces is_comma rest ≡ rest ∷ [] = pieces_end is_comma rest (sym at ∙ end) in
          rw e (part_fault found (part_at p rest) (Ok []) fault (ap (λ (t : List ℕ). behind found (part_at p t)) (sym (text_ends rest len end)) ∙ read))
    ]

filled_fault : (found : List Interval) (offset : ℕ) (uuid : Option (List ℕ)) (e : GtidFault) (next : ℕ → Result (List Interval) GtidFault) → Err e ≡ uuid_or offset uuid → behind found (uuid_or offset uuid >>= next) ≡ Err e
filled_fault found offset None e next h = let g : BadUuid offset ≡ e = cc in ap Err g
filled_fault found offset (Some bytes) e next h = absurd (cc)

-- a text whose UUID does not read
pub filled_fails : (found : List Interval) (offset : ℕ) (text : List ℕ) (colon : ℕ) (e : GtidFault) → colon ≡ position_or_len is_colon text → Err e ≡ uuid_or offset (parsed_hyphenated (take colon text)) → behind found (filled_at offset text) ≡ Err e
unfolding filled_at
filled_fails found offset text colon e at h = filled_fault found offset (parsed_hyphenated (take (position_or_len is_colon text) text)) e (λ uuid. listed_at uuid offset text) (subst (λ (n : ℕ). Err e ≡ uuid_or offset (parsed_hyphenated (take n text))) at h)

-- a text whose UUID reads
pub filled_goes : (found : List Interval) (offset : ℕ) (text : List ℕ) (colon uuid : ℕ) → colon ≡ position_or_len is_colon text → Ok uuid ≡ uuid_or offset (parsed_hyphenated (take colon text)) → behind found (filled_at offset text) ≡ behind found (listed_at uuid offset text)
unfolding filled_at
filled_goes found offset text colon uuid at h =
    let e : uuid_or offset (parsed_hyphenated (take (position_or_len is_colon text) text)) ≡ Ok uuid = sym (subst (λ (n : ℕ). Ok uuid ≡ uuid_or offset (parsed_hyphenated (take n text))) at h) in
    rw e refl

pub listed_none : (found : List Interval) (offset : ℕ) (text : List ℕ) (colon uuid : ℕ) → colon ≡ position_or_len is_colon text → colon ≡ length text → behind found (listed_at uuid offset text) ≡ Err (BadInterval (offset + colon))
listed_none found offset text colon uuid at end = rw (le-ltb (position_or_len is_colon text) (length text) (omega arith), end) refl

pub listed_some : (found : List Interval) (offset : ℕ) (text : List ℕ) (colon uuid : ℕ) → colon ≡ position_or_len is_colon text → colon < length text
    → behind found (listed_at uuid offset text) ≡ behind found (intervals_at uuid (offset + colon + 1) (pieces is_colon (drop (colon + 1) text)))
listed_some found offset text colon uuid at less = rw (lt-ltb (position_or_len is_colon text) (length text) (omega arith), at) refl

pub part_blank : (found : List Interval) (offset : ℕ) (text : List ℕ) → length text ≤ leading text → behind found (part_at offset text) ≡ Err (BadUuid (offset + length text))
unfolding part_at
part_blank found offset text h = rw (le-ltb (leading text) (length text) h) refl

pub part_filled : (found : List Interval) (offset : ℕ) (text : List ℕ) → leading text < length text → behind found (part_at offset text) ≡ behind found (filled_at (offset + leading text) (inner text))
unfolding part_at
part_filled found offset text h = rw (lt-ltb (leading text) (length text) h) refl

pub text_blank : (text : List ℕ) → length text ≤ leading text → text_at text ≡ Ok []
unfolding text_at
text_blank text h = rw (le-ltb (leading text) (length text) h) refl

nothing_behind : (r : Result (List Interval) GtidFault) → behind [] r ≡ r
nothing_behind (Ok xs) = refl
nothing_behind (Err e) = refl

pub text_filled : (text : List ℕ) → leading text < length text → text_at text ≡ behind [] (parts_at 0 (pieces is_comma text))
unfolding text_at
text_filled text h = rw (lt-ltb (leading text) (length text) h) (sym (nothing_behind (parts_at 0 (pieces is_comma text))))

-- one more step of the loops
pub intervals_step : (u offset from len : ℕ) (text : List ℕ) (found : List Interval) → behind found (intervals_at u (offset + from + len + 1) (pieces is_colon (drop (len + 1) (drop from text))))
    ≡ behind found (intervals_at u (offset + (from + (len + 1))) (pieces is_colon (drop (from + (len + 1)) text)))
intervals_step u offset from len text found =
    let a : offset + from + len + 1 ≡ offset + (from + (len + 1)) = omega arith in
    rw (a, drop_more text from (len + 1)) refl

pub parts_step : (from len : ℕ) (text : List ℕ) (found : List Interval) → behind found (parts_at (from + len + 1) (pieces is_comma (drop (len + 1) (drop from text))))
    ≡ behind found (parts_at (from + (len + 1)) (pieces is_comma (drop (from + (len + 1)) text)))
parts_step from len text found =
    let a : from + len + 1 ≡ from + (len + 1) = omega arith in
    rw (a, drop_more text from (len + 1)) refl

pub fault_along : (e : GtidFault) (part whole : Result (List Interval) GtidFault) → ((f : GtidFault) → part ≡ Err f → whole ≡ Err f) → MatchOption (fault_of e) ⊤ (λ f. part ≡ Err f) → MatchOption (fault_of e) ⊤ (λ f. whole ≡ Err f)
fault_along Memory part whole go h = tt
fault_along x part whole go h = go x h
