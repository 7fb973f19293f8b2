-- The numbers of a coordinate's text.
use Rattle.std.proofs.Common.{◌≡◌, ℕ, zero, suc, ◌+◌, ◌-◌, ◌^◌, ◌<◌, ◌≤◌, Bool, true, false, cond, eqb, ltb, leb, List, [], ◌∷◌, ◌++◌, length, get_or, Some, None, Result, Ok, Err, refl, sym, ap, ◌∙◌, subst, arith, ⊎_elim, rules, ◌&&◌, ◌||◌, decimal, replicate}
use Rattle.binlog_coords.proofs.Prelude.{IsDigitsTest, IsNumeralModel, ParsesUnsigned, and_parts, and_right, begins_above_zero, cases_eq}
use Rattle.binlog_coords.proofs.Prelude.{decimal-digits_value, digits_decimal, digits_value, digits_value-decimal, drop-replicate, eq-eqb, eqb-true}
use Rattle.binlog_coords.proofs.Prelude.{false_from_ne_true, false≢true, first_decimal, is_ascii_digit, is_extension, is_plain, le-leb, leb-true}
use Rattle.binlog_coords.proofs.Prelude.{length-append, length-replicate, list_all, lt-ltb, ltb-true, number_at, numerals_by_value, or_cases, or_left}
use Rattle.binlog_coords.proofs.Prelude.{or_right, parse_digits, pos_at, result_ok, six_digits, value_within}

tells_digits : IsDigitsTest (λ ds. list_all is_ascii_digit ds ≡ true)
tells_digits = search rules

pub own : IsNumeralModel (λ ds. list_all is_ascii_digit ds ≡ true) (digits_value 10)
own = numerals_by_value (λ ds. list_all is_ascii_digit ds ≡ true) tells_digits

-- leading zeros change neither the value nor that all are digits
value_behind_zeros : (z : ℕ) (ds : List ℕ) → digits_value 10 (replicate z 48 ++ ds) ≡ digits_value 10 ds
value_behind_zeros zero ds = refl
value_behind_zeros (suc z) ds = value_behind_zeros z ds

digits_behind_zeros : (z : ℕ) (ds : List ℕ) → list_all is_ascii_digit ds ≡ true → list_all is_ascii_digit (replicate z 48 ++ ds) ≡ true
digits_behind_zeros zero ds e = e
digits_behind_zeros (suc z) ds e = digits_behind_zeros z ds e

-- digits are leading zeros and the decimal of their value, which is not zero
zeros_in_front : (ds : List ℕ) → list_all is_ascii_digit ds ≡ true → 0 < digits_value 10 ds → digits_value 10 ds < 2 ^ 64 → (z : ℕ) × (ds ≡ replicate z 48 ++ decimal (digits_value 10 ds))
zeros_in_front [] all some fits = absurd (omega arith)
zeros_in_front (d ∷ ds) all some fits = ⊎_elim
    (λ e.
    let same : digits_value 10 (d ∷ ds) ≡ digits_value 10 ds = ap (λ (x : ℕ). digits_value 10 (x ∷ ds)) e in
    let p = zeros_in_front ds (and_parts (is_ascii_digit d) (list_all is_ascii_digit ds) all).1 (omega arith) (omega arith) in
    (suc p.0, (λ i. e i ∷ p.1 i) ∙ ap (λ (n : ℕ). replicate (suc p.0) 48 ++ decimal n) (sym same)))
    (λ other. (0, sym (decimal-digits_value own (d ∷ ds) all (omega arith) (λ e. absurd (other e)) fits)))
    (cases_eq d 48)

pub six_digits-zeros : (n : ℕ) → six_digits n ≡ replicate (6 - length (decimal n)) 48 ++ decimal n
six_digits-zeros n = ap (λ (l : List ℕ). l ++ decimal n) (drop-replicate (length (decimal n)) 6 48)

plain_decimal : (ds : List ℕ) → begins_above_zero ds ≡ true → list_all is_ascii_digit ds ≡ true → 0 < length ds → digits_value 10 ds < 2 ^ 64 → decimal (digits_value 10 ds) ≡ ds
plain_decimal ds first all some fits =
    let above : 49 ≤ get_or ds 0 0 = leb-true 49 (get_or ds 0 0) first in
    decimal-digits_value own ds all some (λ e. absurd (omega arith)) fits

some_plain : (ds : List ℕ) → begins_above_zero ds ≡ true → 0 < length ds
some_plain [] e = absurd (false≢true e)
some_plain (d ∷ ds) e = omega arith

-- what is plain is the decimal of its value
pub decimal-is_plain : (ds : List ℕ) → is_plain ds ≡ true → digits_value 10 ds < 2 ^ 64 → decimal (digits_value 10 ds) ≡ ds
decimal-is_plain ds plain fits =
    let p = and_parts (begins_above_zero ds) (list_all is_ascii_digit ds) plain in
    plain_decimal ds p.0 p.1 (some_plain ds p.0) fits

pub is_plain-decimal : (n : ℕ) → 0 < n → n < 2 ^ 64 → is_plain (decimal n) ≡ true
is_plain-decimal n some fits =
    let first : begins_above_zero (decimal n) ≡ true = le-leb 49 (get_or (decimal n) 0 0) (omega (arith, first_decimal n some fits)) in
    rw first (digits_decimal own n fits)

six : (ds : List ℕ) → length ds ≡ 6 → list_all is_ascii_digit ds ≡ true → 0 < digits_value 10 ds → digits_value 10 ds < 2 ^ 64 → six_digits (digits_value 10 ds) ≡ ds
six ds long all some fits =
    let n = digits_value 10 ds in
    let p = zeros_in_front ds all some fits in
    let sum : p.0 + length (decimal n) ≡ 6 = omega (arith, ap length p.1, length-append (replicate p.0 48) (decimal n), length-replicate {A = ℕ} p.0 48) in
    let zeros : 6 - length (decimal n) ≡ p.0 = omega arith in
    six_digits-zeros n ∙ ap (λ (z : ℕ). replicate z 48 ++ decimal n) zeros ∙ sym p.1

more_than_six : (ds : List ℕ) → 6 < length ds → begins_above_zero ds ≡ true → list_all is_ascii_digit ds ≡ true → digits_value 10 ds < 2 ^ 64 → six_digits (digits_value 10 ds) ≡ ds
more_than_six ds long first all fits =
    let n = digits_value 10 ds in
    let same : decimal n ≡ ds = plain_decimal ds first all (omega arith) fits in
    let zeros : 6 - length (decimal n) ≡ 0 = omega (arith, ap length same) in
    six_digits-zeros n ∙ ap (λ (z : ℕ). replicate z 48 ++ decimal n) zeros ∙ same

-- a file's number is its value in at least six digits
pub six_digits-is_extension : (ds : List ℕ) → is_extension ds ≡ true → 0 < digits_value 10 ds → digits_value 10 ds < 2 ^ 64 → six_digits (digits_value 10 ds) ≡ ds
six_digits-is_extension ds good some fits =
    let p = and_parts (list_all is_ascii_digit ds) (eqb (length ds) 6 || (ltb 6 (length ds) && begins_above_zero ds)) good in
    ⊎_elim
    (λ e. six ds (eqb-true (length ds) 6 e) p.0 some fits)
    (λ e.
    let q = and_parts (ltb 6 (length ds)) (begins_above_zero ds) e in
    more_than_six ds (ltb-true 6 (length ds) q.0) q.1 p.0 fits)
    (or_cases (eqb (length ds) 6) (ltb 6 (length ds) && begins_above_zero ds) p.1)

pub digits_value-six_digits : (n : ℕ) → n < 2 ^ 64 → digits_value 10 (six_digits n) ≡ n
digits_value-six_digits n fits = ap (digits_value 10) (six_digits-zeros n) ∙ value_behind_zeros (6 - length (decimal n)) (decimal n) ∙ digits_value-decimal own n fits

length-six_digits : (n : ℕ) → length (six_digits n) ≡ 6 - length (decimal n) + length (decimal n)
length-six_digits n = ap length (six_digits-zeros n) ∙ length-append (replicate (6 - length (decimal n)) 48) (decimal n) ∙ ap (λ (k : ℕ). k + length (decimal n)) (length-replicate (6 - length (decimal n)) 48)

pub is_extension-six_digits : (n : ℕ) → 0 < n → n < 2 ^ 64 → is_extension (six_digits n) ≡ true
is_extension-six_digits n some fits =
    let ds = six_digits n in
    let digits : list_all is_ascii_digit ds ≡ true = subst (λ (l : List ℕ). list_all is_ascii_digit l ≡ true) (sym (six_digits-zeros n)) (digits_behind_zeros (6 - length (decimal n)) (decimal n) (digits_decimal own n fits)) in
    let long : (eqb (length ds) 6 || (ltb 6 (length ds) && begins_above_zero ds)) ≡ true = ⊎_elim
    (λ e. or_left (eqb (length ds) 6) (ltb 6 (length ds) && begins_above_zero ds) (eq-eqb (length ds) 6 e))
    (λ other.
    let none : 6 - length (decimal n) ≡ 0 = omega (arith, length-six_digits n) in
    let same : ds ≡ decimal n = six_digits-zeros n ∙ ap (λ (z : ℕ). replicate z 48 ++ decimal n) none in
    let above : 49 ≤ get_or ds 0 0 = omega (arith, first_decimal n some fits, ap (λ (l : List ℕ). get_or l 0 0) same) in
    let first : begins_above_zero ds ≡ true = le-leb 49 (get_or ds 0 0) above in
    let more : ltb 6 (length ds) ≡ true = lt-ltb 6 (length ds) (omega (arith, length-six_digits n)) in
    or_right (eqb (length ds) 6) (ltb 6 (length ds) && begins_above_zero ds) (rw more first))
    (cases_eq (length ds) 6) in
    rw digits long

-- the value, if it is within its bounds
pub value_within_is : (low limit : ℕ) (ds : List ℕ) → low ≤ digits_value 10 ds → digits_value 10 ds < limit → value_within low limit ds ≡ Some (digits_value 10 ds)
value_within_is low limit ds above below = rw (le-leb low (digits_value 10 ds) above, lt-ltb (digits_value 10 ds) limit below) refl

passed : (a b : Bool) (v n : ℕ) → cond (a && b) (Some v) None ≡ Some n → (a ≡ true) × (b ≡ true) × (v ≡ n)
passed true true v n e = (refl, refl, cc)
passed true false v n e = absurd (cc)
passed false b v n e = absurd (cc)

pub value_within_some : (low limit : ℕ) (ds : List ℕ) (n : ℕ) → value_within low limit ds ≡ Some n → (low ≤ n) × (n < limit) × (digits_value 10 ds ≡ n)
value_within_some low limit ds n e =
    let p = passed (leb low (digits_value 10 ds)) (ltb (digits_value 10 ds) limit) (digits_value 10 ds) n e in
    let above : low ≤ digits_value 10 ds = leb-true low (digits_value 10 ds) p.0 in
    let below : digits_value 10 ds < limit = ltb-true (digits_value 10 ds) limit p.1 in
    (omega (arith, p.2), omega (arith, p.2), p.2)

-- digits that `parse` refuses write a number past the limit
value_within-refused : {E : Type 0} (low k : ℕ) (ds : List ℕ) (r : Result ℕ E) → ParsesUnsigned k 10 ds r → result_ok r ≡ None → list_all is_ascii_digit ds ≡ true → 0 < length ds → value_within low (2 ^ k) ds ≡ None
value_within-refused low k ds (Ok n) h e all some = absurd (cc)
value_within-refused {E} low k ds (Err e) h none all some =
    let refused = parse_digits own {E = E} k ds (Err e) h all in
    let past : ltb (digits_value 10 ds) (2 ^ k) ≡ false = false_from_ne_true _ (λ below. refused (some, ltb-true (digits_value 10 ds) (2 ^ k) below)) in
    ap (λ (b : Bool). cond b (Some (digits_value 10 ds)) None) (and_right (leb low (digits_value 10 ds)) (ltb (digits_value 10 ds) (2 ^ k)) past)

some_extension : (ds : List ℕ) → is_extension ds ≡ true → 0 < length ds
some_extension [] e = absurd (false≢true e)
some_extension (d ∷ ds) e = omega arith

pub pos_at-refused : {E : Type 0} (ds : List ℕ) (r : Result ℕ E) → ParsesUnsigned 64 10 ds r → result_ok r ≡ None → is_plain ds ≡ true → pos_at ds ≡ None
pos_at-refused ds r h none plain =
    let p = and_parts (begins_above_zero ds) (list_all is_ascii_digit ds) plain in
    ap (λ (b : Bool). cond b (value_within 4 (2 ^ 64) ds) None) plain ∙ value_within-refused 4 64 ds r h none p.1 (some_plain ds p.0)

pub number_at-refused : {E : Type 0} (ds : List ℕ) (r : Result ℕ E) → ParsesUnsigned 32 10 ds r → result_ok r ≡ None → is_extension ds ≡ true → number_at ds ≡ None
number_at-refused ds r h none good =
    let p = and_parts (list_all is_ascii_digit ds) (eqb (length ds) 6 || (ltb 6 (length ds) && begins_above_zero ds)) good in
    ap (λ (b : Bool). cond b (value_within 1 (2 ^ 32) ds) None) good ∙ value_within-refused 1 32 ds r h none p.0 (some_extension ds good)
