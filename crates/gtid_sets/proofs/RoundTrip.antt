-- What is printed reads as the same set.
use Rattle.gtid_sets.proofs.Prelude.{AllPass-from_list_all, Interval, IsInterval, IsNumeralModel, IsSet, all_ascii_digits, and_parts, by_index_at}
use Rattle.gtid_sets.proofs.Prelude.{by_index_length, byte_at, bytes_high_first, digit_place, digits_decimal, digits_value-decimal, drop-append-add}
use Rattle.gtid_sets.proofs.Prelude.{eqb-true, filled_at, first_decimal, fold, from_be_bytes, from_be_bytes-to_be_bytes_16}
use Rattle.gtid_sets.proofs.Prelude.{get_or-reverse, hex_digit, hyphenated_text, interval_at, interval_of, intervals_at, is_ascii_digit, is_blank}
use Rattle.gtid_sets.proofs.Prelude.{is_colon, is_comma, is_dash, is_hyphen_place, largest, le-ltb, leading, length-append, length-reverse, list_all}
use Rattle.gtid_sets.proofs.Prelude.{list_all-append, list_all-from_AllPass, lower, lt-ltb, nat_tests, ne_eqb, nibble, nibble_small}
use Rattle.gtid_sets.proofs.Prelude.{not-true as not_true, number_at, numerals_by_fold, parsed_hyphenated, parses_hyphenated_text, part_at, parts_at}
use Rattle.gtid_sets.proofs.Prelude.{pieces, position_or_len, printed, range_text, take_all, take_at, tells_all_ascii_digits, text_at, texts}
use Rattle.gtid_sets.proofs.Prelude.{to_be_bytes, trailing, uuid_or, uuid_text, value_of, w128}
use Rattle.std.proofs.Common.{◌≡◌, ℕ, zero, suc, ◌+◌, ◌-◌, ◌*◌, ◌/◌, ◌%◌, ◌^◌, ◌<◌, ◌≤◌, Bool, true, false, not, cond, eqb, ltb, List, [], ◌∷◌, ◌++◌, length, get_or, take, drop, Option, Some, None, Ok, All, inl, refl, sym, ap, ◌∙◌, subst, append_assoc, append-nil, arith, ◌&&◌, decimal, reverse, nat_le, ◌==◌}

-- neither a blank nor a comma, and no colon besides
abbrev in_part : ℕ → Bool
in_part b = nat_le 45 b

abbrev in_word : ℕ → Bool
in_word b = nat_le 45 b && not (b == 58)

all_imply : (p q : ℕ → Bool) → ((b : ℕ) → p b ≡ true → q b ≡ true) → (bs : List ℕ) → list_all p bs ≡ true → list_all q bs ≡ true
all_imply p q h [] e = refl
all_imply p q h (b ∷ bs) e =
    let both = and_parts (p b) (list_all p bs) e in
    rw (h b both.0, all_imply p q h bs both.1) refl

all_append : (p : ℕ → Bool) (a b : List ℕ) → list_all p a ≡ true → list_all p b ≡ true → list_all p (a ++ b) ≡ true
all_append p a b e f = rw (list_all-append p a b, e, f) refl

all_reverse : (p : ℕ → Bool) (a : List ℕ) → list_all p a ≡ true → list_all p (reverse a) ≡ true
all_reverse p a e =
    let each = AllPass-from_list_all p a e in
    list_all-from_AllPass p (reverse a) (λ k d h.
    let within : k < length a = omega (arith, h, length-reverse a) in
    rw (get_or-reverse a k d within) (each (length a - 1 - k) d (omega (arith, within))))

word_part : (b : ℕ) → in_word b ≡ true → in_part b ≡ true
word_part b e = (and_parts (nat_le 45 b) (not (b == 58)) e).0

word_colon : (b : ℕ) → in_word b ≡ true → not (is_colon b) ≡ true
word_colon b e = (and_parts (nat_le 45 b) (not (b == 58)) e).1

part_comma : (b : ℕ) → in_part b ≡ true → not (is_comma b) ≡ true
part_comma b e = grind (arith, nat_tests)

part_blank : (b : ℕ) → in_part b ≡ true → is_blank b ≡ false
part_blank b e = grind (arith, nat_tests)

digit_word : (b : ℕ) → is_ascii_digit b ≡ true → in_word b ≡ true
digit_word b e = grind (arith, nat_tests)

digit_dash : (b : ℕ) → is_ascii_digit b ≡ true → not (is_dash b) ≡ true
digit_dash b e = grind (arith, nat_tests)

-- the place at which a text is cut
place_of : (p : ℕ → Bool) (d : ℕ) (a rest : List ℕ) → p d ≡ true → list_all (λ b. not (p b)) a ≡ true → position_or_len p (a ++ d ∷ rest) ≡ length a
place_of p d [] rest cuts e = rw cuts refl
place_of p d (b ∷ a) rest cuts e =
    let both = and_parts (not (p b)) (list_all (λ x. not (p x)) a) e in
    let more = place_of p d a rest cuts both.1 in
    rw both.0 (omega (arith, more))

place_none : (p : ℕ → Bool) (a : List ℕ) → list_all (λ b. not (p b)) a ≡ true → position_or_len p a ≡ length a
place_none p [] e = refl
place_none p (b ∷ a) e =
    let both = and_parts (not (p b)) (list_all (λ x. not (p x)) a) e in
    let more = place_none p a both.1 in
    rw both.0 (omega (arith, more))

pieces_prefix : (p : ℕ → Bool) (a b t : List ℕ) (rest : List (List ℕ)) → list_all (λ x. not (p x)) a ≡ true → pieces p b ≡ t ∷ rest → pieces p (a ++ b) ≡ (a ++ t) ∷ rest
pieces_prefix p [] b t rest e f = f
pieces_prefix p (x ∷ a) b t rest e f =
    let both = and_parts (not (p x)) (list_all (λ y. not (p y)) a) e in
    rw (not_true (p x) both.0, pieces_prefix p a b t rest both.1 f) refl

-- a number's text
own : IsNumeralModel (λ ds. all_ascii_digits ds ≡ true) (λ ds. fold (λ m c. m * 10 + (c - 48)) 0 ds)
own = numerals_by_fold (λ ds. all_ascii_digits ds ≡ true) tells_all_ascii_digits (λ n ds. fold (λ m c. m * 10 + (c - 48)) n ds) (record { empty = λ n. refl; more = λ n c cs h. refl })

pub same_digits : (ds : List ℕ) → list_all is_ascii_digit ds ≡ all_ascii_digits ds
same_digits [] = refl
same_digits (d ∷ ds) = rw (same_digits ds) refl

decimal_digits : (n : ℕ) → n < 2 ^ 64 → list_all is_ascii_digit (decimal n) ≡ true
decimal_digits n h = same_digits (decimal n) ∙ digits_decimal own n h

some_first : (ds : List ℕ) → 49 ≤ get_or ds 0 0 → 0 < length ds
some_first [] h = absurd (omega (arith, h))
some_first (d ∷ ds) h = omega arith

number_back : (n : ℕ) → 0 < n → n < 2 ^ 64 → number_at (decimal n) ≡ Some n
number_back n low high =
    let some : 0 < length (decimal n) = some_first (decimal n) (first_decimal n low high) in
    let value : value_of (decimal n) ≡ n = digits_value-decimal own n high in
    rw (lt-ltb 0 (length (decimal n)) some, decimal_digits n high, value) refl

-- an interval's text
interval_fits : (u p f l : ℕ) → 1 ≤ f → f ≤ l → l ≤ largest → interval_of u p f l ≡ Ok (record { uuid = u; first = f; last = l })
interval_fits u p f l one rises fits =
    let a : eqb f 0 ≡ false = ne_eqb f 0 (omega arith) in
    let b : eqb l 0 ≡ false = ne_eqb l 0 (omega arith) in
    let c : ltb largest f ≡ false = le-ltb largest f (omega arith) in
    let d : ltb largest l ≡ false = le-ltb largest l fits in
    let e : ltb l f ≡ false = le-ltb l f rises in
    rw (a, b, c, d, e) refl

no_dash : (ds : List ℕ) → list_all is_ascii_digit ds ≡ true → list_all (λ b. not (is_dash b)) ds ≡ true
no_dash ds e = all_imply is_ascii_digit (λ b. not (is_dash b)) digit_dash ds e

one_number : (u p n : ℕ) (ds : List ℕ) → list_all is_ascii_digit ds ≡ true → number_at ds ≡ Some n → interval_of u p n n ≡ interval_at u p ds
unfolding interval_at
one_number u p n ds digits value =
    let at : position_or_len is_dash ds ≡ length ds = place_none is_dash ds (no_dash ds digits) in
    let all : take (length ds) ds ≡ ds = take_all (length ds) ds (omega arith) in
    let less : ltb (length ds) (length ds) ≡ false = le-ltb _ _ (omega arith) in
    rw (at, less, all, value) refl

two_numbers : (u p n m : ℕ) (ds es : List ℕ) → list_all is_ascii_digit ds ≡ true → number_at ds ≡ Some n → number_at es ≡ Some m → interval_of u p n m ≡ interval_at u p (ds ++ 45 ∷ es)
unfolding interval_at
two_numbers u p n m ds es digits first last =
    let at : position_or_len is_dash (ds ++ 45 ∷ es) ≡ length ds = place_of is_dash 45 ds es refl (no_dash ds digits) in
    let all : take (length ds) (ds ++ 45 ∷ es) ≡ ds = take_at ds (45 ∷ es) (length ds) refl in
    let less : ltb (length ds) (length (ds ++ 45 ∷ es)) ≡ true = lt-ltb _ _ (omega (arith, length-append ds (45 ∷ es))) in
    let more : drop (length ds + 1) (ds ++ 45 ∷ es) ≡ es = drop-append-add ds (45 ∷ es) 1 in
    rw (at, less, all, more, first, last) refl

fits_64 : (n : ℕ) → n ≤ largest → n < 2 ^ 64
fits_64 n h = omega (arith, h)

same_ends : (u p : ℕ) (s : Interval) → IsInterval s → s.first ≡ s.last → interval_at u p (decimal s.first) ≡ Ok (record { uuid = u; first = s.first; last = s.last })
same_ends u p s is e =
    let small : s.first < 2 ^ 64 = fits_64 s.first (omega (arith, is.rises, is.in_range)) in
    let read = one_number u p s.first (decimal s.first) (decimal_digits s.first small) (number_back s.first (omega (arith, is.above_zero)) small) in
    sym read ∙ subst (λ (l : ℕ). interval_of u p s.first l ≡ Ok (record { uuid = u; first = s.first; last = s.last })) (sym e) (interval_fits u p s.first s.last is.above_zero is.rises is.in_range)

two_ends : (u p : ℕ) (s : Interval) → IsInterval s → interval_at u p (decimal s.first ++ 45 ∷ decimal s.last) ≡ Ok (record { uuid = u; first = s.first; last = s.last })
two_ends u p s is =
    let small : s.first < 2 ^ 64 = fits_64 s.first (omega (arith, is.rises, is.in_range)) in
    let big : s.last < 2 ^ 64 = fits_64 s.last is.in_range in
    let read = two_numbers u p s.first s.last (decimal s.first) (decimal s.last) (decimal_digits s.first small) (number_back s.first (omega (arith, is.above_zero)) small) (number_back s.last (omega (arith, is.above_zero, is.rises)) big) in
    sym read ∙ interval_fits u p s.first s.last is.above_zero is.rises is.in_range

range_cases : (p : ℕ) (s : Interval) → IsInterval s → (b : Bool) → eqb s.first s.last ≡ b
    → interval_at s.uuid p (cond b (decimal s.first) (decimal s.first ++ 45 ∷ decimal s.last)) ≡ Ok s
range_cases p s is true e = same_ends s.uuid p s is (eqb-true s.first s.last e)
range_cases p s is false e = two_ends s.uuid p s is

range_back : (p : ℕ) (s : Interval) → IsInterval s → interval_at s.uuid p (range_text s) ≡ Ok s
range_back p s is = range_cases p s is (eqb s.first s.last) refl

number_word : (n : ℕ) → n ≤ largest → list_all in_word (decimal n) ≡ true
number_word n h = all_imply is_ascii_digit in_word digit_word (decimal n) (decimal_digits n (fits_64 n h))

range_either : (s : Interval) → IsInterval s → (b : Bool) → list_all in_word (cond b (decimal s.first) (decimal s.first ++ 45 ∷ decimal s.last)) ≡ true
range_either s is true = number_word s.first (omega (arith, is.rises, is.in_range))
range_either s is false =
    let behind_dash : list_all in_word (45 ∷ decimal s.last) ≡ true = number_word s.last is.in_range in
    all_append in_word (decimal s.first) (45 ∷ decimal s.last) (number_word s.first (omega (arith, is.rises, is.in_range))) behind_dash

range_word : (s : Interval) → IsInterval s → list_all in_word (range_text s) ≡ true
range_word s is = range_either s is (eqb s.first s.last)

-- a UUID's text
hex_word : (d : ℕ) → d < 16 → in_word (hex_digit lower d) ≡ true
hex_word d h = grind (arith, nat_tests)

hyphen_or : (b : Bool) (x : ℕ) → in_word x ≡ true → in_word (cond b 45 x) ≡ true
hyphen_or true x e = refl
hyphen_or false x e = e

hyphenated_word : (xs : List ℕ) → list_all in_word (hyphenated_text lower xs) ≡ true
hyphenated_word xs = list_all-from_AllPass in_word (hyphenated_text lower xs) (λ k d h.
    let within : k < 36 = omega (arith, h, by_index_length 36 (λ j. cond (is_hyphen_place j) 45 (hex_digit lower (nibble xs (digit_place j))))) in
    rw (by_index_at 36 (λ j. cond (is_hyphen_place j) 45 (hex_digit lower (nibble xs (digit_place j)))) k d within)
    (hyphen_or (is_hyphen_place k) (hex_digit lower (nibble xs (digit_place k))) (hex_word (nibble xs (digit_place k)) (nibble_small xs (digit_place k)))))

some_bytes : (q u : ℕ) (bytes : List ℕ) (r : Option (List ℕ)) → Some bytes ≡ r → from_be_bytes w128 bytes ≡ u → uuid_or q r ≡ Ok u
some_bytes q u bytes r e f = subst (λ (x : Option (List ℕ)). uuid_or q x ≡ Ok u) e (ap Ok f)

all_nil : All (λ (b : ℕ). b < 256) []
all_nil k d h = absurd (omega (arith, h))

all_cons : (b : ℕ) (bs : List ℕ) → b < 256 → All (λ (x : ℕ). x < 256) bs → All (λ (x : ℕ). x < 256) (b ∷ bs)
all_cons b bs h more zero d within = h
all_cons b bs h more (suc k) d within = more k d (omega (arith, within))

remainder_small : (m : ℕ) → m % 256 < 256
remainder_small m = omega arith

byte_small : (i n : ℕ) → byte_at i n < 256
byte_small zero n = remainder_small n
byte_small (suc i) n = remainder_small (n / 256 ^ suc i)

high_small : (k n : ℕ) → All (λ (b : ℕ). b < 256) (bytes_high_first k n)
high_small zero n = all_nil
high_small (suc k) n = all_cons (byte_at k n) (bytes_high_first k n) (byte_small k n) (high_small k n)

high_length : (k n : ℕ) → length (bytes_high_first k n) ≡ k
high_length zero n = refl
high_length (suc k) n = omega (arith, high_length k n)

uuid_back : (q u : ℕ) → u < 2 ^ 128 → uuid_or q (parsed_hyphenated (uuid_text u)) ≡ Ok u
uuid_back q u fits =
    some_bytes q u (to_be_bytes w128 u) (parsed_hyphenated (uuid_text u))
    (parses_hyphenated_text lower (to_be_bytes w128 u) (inl refl) (high_length 16 u) (high_small 16 u))
    (from_be_bytes-to_be_bytes_16 u fits)

-- a text between two commas
leading_front : (a b : List ℕ) → list_all in_part a ≡ true → 0 < length a → leading (a ++ b) ≡ 0
leading_front [] b e h = absurd (omega (arith, h))
leading_front (x ∷ a) b e h = rw (part_blank x (and_parts (in_part x) (list_all in_part a) e).0) refl

leading_none : (a : List ℕ) → list_all in_part a ≡ true → leading a ≡ 0
leading_none [] e = refl
leading_none (x ∷ a) e = rw (part_blank x (and_parts (in_part x) (list_all in_part a) e).0) refl

part_filled : (p : ℕ) (t : List ℕ) → list_all in_part t ≡ true → 0 < length t → part_at p t ≡ filled_at p t
unfolding part_at
part_filled p t e h =
    let front : leading t ≡ 0 = leading_none t e in
    let back : trailing t ≡ 0 = leading_none (reverse t) (all_reverse in_part t e) in
    let some : ltb 0 (length t) ≡ true = lt-ltb 0 (length t) h in
    let all : take (length t - 0) t ≡ t = take_all (length t - 0) t (omega arith) in
    let at : p + 0 ≡ p = omega arith in
    rw (front, back, some, all, at) refl

filled_back : (p u : ℕ) (name r : List ℕ) (xs : List Interval) → list_all in_word name ≡ true
    → uuid_or p (parsed_hyphenated name) ≡ Ok u → ((q : ℕ) → intervals_at u q (pieces is_colon r) ≡ Ok xs) → filled_at p (name ++ 58 ∷ r) ≡ Ok xs
unfolding filled_at
filled_back p u name r xs word uuid read =
    let at : position_or_len is_colon (name ++ 58 ∷ r) ≡ length name = place_of is_colon 58 name r refl (all_imply in_word (λ b. not (is_colon b)) word_colon name word) in
    let all : take (length name) (name ++ 58 ∷ r) ≡ name = take_at name (58 ∷ r) (length name) refl in
    let less : ltb (length name) (length (name ++ 58 ∷ r)) ≡ true = lt-ltb _ _ (omega (arith, length-append name (58 ∷ r))) in
    let more : drop (length name + 1) (name ++ 58 ∷ r) ≡ r = drop-append-add name (58 ∷ r) 1 in
    rw (at, all, uuid, less, more) (read (p + length name + 1))

part_back : (p u : ℕ) (name r : List ℕ) (xs : List Interval) → list_all in_word name ≡ true → list_all in_part r ≡ true
    → uuid_or p (parsed_hyphenated name) ≡ Ok u → ((q : ℕ) → intervals_at u q (pieces is_colon r) ≡ Ok xs) → part_at p (name ++ 58 ∷ r) ≡ Ok xs
part_back p u name r xs word clean uuid read =
    let behind_colon : list_all in_part (58 ∷ r) ≡ true = clean in
    let whole : list_all in_part (name ++ 58 ∷ r) ≡ true = all_append in_part name (58 ∷ r) (all_imply in_word in_part word_part name word) behind_colon in
    part_filled p (name ++ 58 ∷ r) whole (omega (arith, length-append name (58 ∷ r))) ∙ filled_back p u name r xs word uuid read

-- What is printed after an interval of this UUID: more intervals of it, then parts of others.
record Tail (u : ℕ) (xs : List Interval) : Type 0 where
  here : List ℕ
  rest : List (List ℕ)
  same : List Interval
  others : List Interval
  cut : pieces is_comma (texts (Some u) xs) ≡ here ∷ rest
  all : xs ≡ same ++ others
  clean : list_all in_part here ≡ true
  reads : (r : List ℕ) (s : Interval) → list_all (λ b. not (is_colon b)) r ≡ true → ((q : ℕ) → interval_at u q r ≡ Ok s) → (p : ℕ) → intervals_at u p (pieces is_colon (r ++ here)) ≡ Ok (s ∷ same)
  reads_others : (p : ℕ) → parts_at p rest ≡ Ok others

one_interval : (u p : ℕ) (r : List ℕ) (s : Interval) → interval_at u p r ≡ Ok s → intervals_at u p (r ∷ []) ≡ Ok (s ∷ [])
unfolding intervals_at
one_interval u p r s e = rw e refl

next_interval : (u p : ℕ) (r : List ℕ) (ts : List (List ℕ)) (s : Interval) (xs : List Interval) → interval_at u p r ≡ Ok s → intervals_at u (p + length r + 1) ts ≡ Ok xs → intervals_at u p (r ∷ ts) ≡ Ok (s ∷ xs)
unfolding intervals_at
next_interval u p r ts s xs e f = rw (e, f) refl

next_part : (p : ℕ) (t : List ℕ) (ts : List (List ℕ)) (xs ys : List Interval) → part_at p t ≡ Ok xs → parts_at (p + length t + 1) ts ≡ Ok ys → parts_at p (t ∷ ts) ≡ Ok (xs ++ ys)
unfolding parts_at
next_part p t ts xs ys e f = rw (e, f) refl

reads_alone : (u : ℕ) (r : List ℕ) (s : Interval) → list_all (λ b. not (is_colon b)) r ≡ true → ((q : ℕ) → interval_at u q r ≡ Ok s) → (p : ℕ) → intervals_at u p (pieces is_colon (r ++ [])) ≡ Ok (s ∷ [])
reads_alone u r s clean read p =
    let cut : pieces is_colon (r ++ []) ≡ (r ++ []) ∷ [] = pieces_prefix is_colon r [] [] [] clean refl in
    let whole : pieces is_colon (r ++ []) ≡ r ∷ [] = cut ∙ ap (λ (t : List ℕ). t ∷ []) (append-nil r) in
    subst (λ (ts : List (List ℕ)). intervals_at u p ts ≡ Ok (s ∷ [])) (sym whole) (one_interval u p r s (read p))

reads_more : (u : ℕ) (t here : List ℕ) (one : Interval) (same : List Interval) → ((p : ℕ) → intervals_at u p (pieces is_colon (t ++ here)) ≡ Ok (one ∷ same))
    → (r : List ℕ) (s : Interval) → list_all (λ b. not (is_colon b)) r ≡ true → ((q : ℕ) → interval_at u q r ≡ Ok s) → (p : ℕ) → intervals_at u p (pieces is_colon (r ++ 58 ∷ (t ++ here))) ≡ Ok (s ∷ one ∷ same)
reads_more u t here one same more r s clean read p =
    let cut : pieces is_colon (r ++ 58 ∷ (t ++ here)) ≡ (r ++ []) ∷ pieces is_colon (t ++ here) = pieces_prefix is_colon r (58 ∷ (t ++ here)) [] (pieces is_colon (t ++ here)) clean refl in
    let whole : pieces is_colon (r ++ 58 ∷ (t ++ here)) ≡ r ∷ pieces is_colon (t ++ here) = cut ∙ ap (λ (x : List ℕ). x ∷ pieces is_colon (t ++ here)) (append-nil r) in
    subst (λ (ts : List (List ℕ)). intervals_at u p ts ≡ Ok (s ∷ one ∷ same)) (sym whole) (next_interval u p r (pieces is_colon (t ++ here)) s (one ∷ same) (read p) (more (p + length r + 1)))

eqb_same : (n : ℕ) → eqb n n ≡ true
eqb_same n = grind (arith, nat_tests)

no_colon : (r : List ℕ) → list_all in_word r ≡ true → list_all (λ b. not (is_colon b)) r ≡ true
no_colon r e = all_imply in_word (λ b. not (is_colon b)) word_colon r e

no_comma : (r : List ℕ) → list_all in_part r ≡ true → list_all (λ b. not (is_comma b)) r ≡ true
no_comma r e = all_imply in_part (λ b. not (is_comma b)) part_comma r e

words_clean : (r : List ℕ) → list_all in_word r ≡ true → list_all in_part r ≡ true
words_clean r e = all_imply in_word in_part word_part r e

range_clean : (s : Interval) → IsInterval s → list_all in_part (58 ∷ range_text s) ≡ true
range_clean s is = words_clean (range_text s) (range_word s is)

texts_same : (u : ℕ) (s : Interval) (xs : List Interval) → eqb s.uuid u ≡ true → texts (Some u) (s ∷ xs) ≡ (58 ∷ range_text s) ++ texts (Some s.uuid) xs
unfolding texts
texts_same u s xs e = rw e refl

texts_other : (u : ℕ) (s : Interval) (xs : List Interval) → eqb s.uuid u ≡ false → texts (Some u) (s ∷ xs) ≡ 44 ∷ ((uuid_text s.uuid ++ 58 ∷ range_text s) ++ texts (Some s.uuid) xs)
unfolding texts
texts_other u s xs e = rw e refl

texts_first : (s : Interval) (xs : List Interval) → texts None (s ∷ xs) ≡ (uuid_text s.uuid ++ 58 ∷ range_text s) ++ texts (Some s.uuid) xs
unfolding texts
texts_first s xs = refl

texts_none : (u : ℕ) → texts (Some u) [] ≡ []
unfolding texts
texts_none u = refl

parts_none : (p : ℕ) → parts_at p [] ≡ Ok []
unfolding parts_at
parts_none p = refl

tail_nil : (u : ℕ) → Tail u []
tail_nil u = record {
  here = [];
  rest = [];
  same = [];
  others = [];
  cut = ap (pieces is_comma) (texts_none u);
  all = refl;
  clean = refl;
  reads = reads_alone u;
  reads_others = parts_none;
}

tail_same : (s : Interval) (xs : List Interval) → IsInterval s → Tail s.uuid xs → Tail s.uuid (s ∷ xs)
tail_same s xs is t = record {
  here = (58 ∷ range_text s) ++ t.here;
  rest = t.rest;
  same = s ∷ t.same;
  others = t.others;
  cut = ap (pieces is_comma) (texts_same s.uuid s xs (eqb_same s.uuid))
      ∙ pieces_prefix is_comma (58 ∷ range_text s) (texts (Some s.uuid) xs) t.here t.rest (no_comma (58 ∷ range_text s) (range_clean s is)) t.cut;
  all = ap (λ (ys : List Interval). s ∷ ys) t.all;
  clean = all_append in_part (58 ∷ range_text s) t.here (range_clean s is) t.clean;
  reads = reads_more s.uuid (range_text s) t.here s t.same (t.reads (range_text s) s (no_colon (range_text s) (range_word s is)) (λ q. range_back q s is));
  reads_others = t.reads_others;
}

-- a UUID with its intervals, and the parts after it
heads : (s : Interval) (xs : List Interval) → IsInterval s → (t : Tail s.uuid xs) → (p : ℕ) → parts_at p (((uuid_text s.uuid ++ 58 ∷ range_text s) ++ t.here) ∷ t.rest) ≡ Ok (s ∷ xs)
heads s xs is t p =
    let name = uuid_text s.uuid in
    let range = range_text s in
    let spread : (name ++ 58 ∷ range) ++ t.here ≡ name ++ 58 ∷ (range ++ t.here) = append_assoc name (58 ∷ range) t.here in
    let clean : list_all in_part (range ++ t.here) ≡ true = all_append in_part range t.here (words_clean range (range_word s is)) t.clean in
    let part : part_at p (name ++ 58 ∷ (range ++ t.here)) ≡ Ok (s ∷ t.same) =
    part_back p s.uuid name (range ++ t.here) (s ∷ t.same) (hyphenated_word (to_be_bytes w128 s.uuid)) clean (uuid_back p s.uuid is.uuid_fits)
    (t.reads range s (no_colon range (range_word s is)) (λ q. range_back q s is)) in
    let all = next_part p (name ++ 58 ∷ (range ++ t.here)) t.rest (s ∷ t.same) t.others part (t.reads_others (p + length (name ++ 58 ∷ (range ++ t.here)) + 1)) in
    subst (λ (x : List ℕ). parts_at p (x ∷ t.rest) ≡ Ok (s ∷ xs)) (sym spread) (all ∙ ap (λ (ys : List Interval). Ok (s ∷ ys)) (sym t.all))

head_clean : (s : Interval) → IsInterval s → list_all in_part (uuid_text s.uuid ++ 58 ∷ range_text s) ≡ true
head_clean s is = all_append in_part (uuid_text s.uuid) (58 ∷ range_text s) (words_clean (uuid_text s.uuid) (hyphenated_word (to_be_bytes w128 s.uuid))) (range_clean s is)

heads_cut : (s : Interval) (xs : List Interval) → IsInterval s → (t : Tail s.uuid xs)
    → pieces is_comma ((uuid_text s.uuid ++ 58 ∷ range_text s) ++ texts (Some s.uuid) xs) ≡ ((uuid_text s.uuid ++ 58 ∷ range_text s) ++ t.here) ∷ t.rest
heads_cut s xs is t = pieces_prefix is_comma (uuid_text s.uuid ++ 58 ∷ range_text s) (texts (Some s.uuid) xs) t.here t.rest (no_comma (uuid_text s.uuid ++ 58 ∷ range_text s) (head_clean s is)) t.cut

tail_other : (u : ℕ) (s : Interval) (xs : List Interval) → IsInterval s → eqb s.uuid u ≡ false → Tail s.uuid xs → Tail u (s ∷ xs)
tail_other u s xs is other t = record {
  here = [];
  rest = ((uuid_text s.uuid ++ 58 ∷ range_text s) ++ t.here) ∷ t.rest;
  same = [];
  others = s ∷ xs;
  cut = ap (pieces is_comma) (texts_other u s xs other) ∙ ap (λ (ts : List (List ℕ)). [] ∷ ts) (heads_cut s xs is t);
  all = refl;
  clean = refl;
  reads = reads_alone u;
  reads_others = heads s xs is t;
}

tail_cons : (u : ℕ) (s : Interval) (xs : List Interval) → IsInterval s → (b : Bool) → eqb s.uuid u ≡ b → Tail s.uuid xs → Tail u (s ∷ xs)
tail_cons u s xs is true e t = subst (λ (v : ℕ). Tail v (s ∷ xs)) (eqb-true s.uuid u e) (tail_same s xs is t)
tail_cons u s xs is false e t = tail_other u s xs is e t

all_head : (s : Interval) (xs : List Interval) → All IsInterval (s ∷ xs) → IsInterval s
all_head s xs h = h 0 s (omega arith)

all_tail : (s : Interval) (xs : List Interval) → All IsInterval (s ∷ xs) → All IsInterval xs
all_tail s xs h = λ k d within. h (suc k) d (omega (arith, within))

tail : (u : ℕ) (xs : List Interval) → All IsInterval xs → Tail u xs
tail u [] h = tail_nil u
tail u (s ∷ xs) h = tail_cons u s xs (all_head s xs h) (eqb s.uuid u) refl (tail s.uuid xs (all_tail s xs h))

text_parts : (a b : List ℕ) → list_all in_part a ≡ true → 0 < length a → text_at (a ++ b) ≡ parts_at 0 (pieces is_comma (a ++ b))
unfolding text_at
text_parts a b e h =
    let front : leading (a ++ b) ≡ 0 = leading_front a b e h in
    let some : ltb 0 (length (a ++ b)) ≡ true = lt-ltb 0 (length (a ++ b)) (omega (arith, h, length-append a b)) in
    rw (front, some) refl

nothing_printed : text_at (printed []) ≡ Ok []
unfolding text_at texts
nothing_printed = refl

pub each_reads : (xs : List Interval) → All IsInterval xs → text_at (printed xs) ≡ Ok xs
each_reads [] h = nothing_printed
each_reads (s ∷ xs) h =
    let is = all_head s xs h in
    let t = tail s.uuid xs (all_tail s xs h) in
    let head = uuid_text s.uuid ++ 58 ∷ range_text s in
    let more = texts (Some s.uuid) xs in
    ap text_at (texts_first s xs) ∙ text_parts head more (head_clean s is) (omega (arith, length-append (uuid_text s.uuid) (58 ∷ range_text s)))
    ∙ ap (parts_at 0) (heads_cut s xs is t) ∙ heads s xs is t 0

pub printed_reads_lem : (xs : List Interval) → IsSet xs → text_at (printed xs) ≡ Ok xs
printed_reads_lem xs set = each_reads xs set.each
