-- Written durations read.
use Rattle.read_back_laws.proofs.Prelude.{IsNumeralModel, all_ascii_digits, and_parts as both, before, decimal_is_IsNumeral, decimal_nonempty, digits_decimal}
use Rattle.read_back_laws.proofs.Prelude.{digits_value, fold, is_ascii_digit, le-leb, leb-true, lt-ltb, ne_eqb, number_and_unit, number_at, numerals_by_fold}
use Rattle.read_back_laws.proofs.Prelude.{option_map_or, pointwise, seconds_at, tells_all_ascii_digits}
use Rattle.scenarios.specs.Commands.Values.{within}
use Rattle.std.proofs.Common.{◌≡◌, ◌∙◌, ℕ, zero, suc, ◌+◌, ◌<◌, ◌≤◌, ◌^◌, ◌-◌, ◌*◌, Bool, true, false, cond, List, [], ◌∷◌, length, take, drop, Option, Some, None, refl, ap, arith, ◌&&◌, decimal, nat_eq, nat_le, nat_lt, option_map}

own : IsNumeralModel (λ ds. all_ascii_digits ds ≡ true) (λ ds. fold (λ m c. m * 10 + (c - 48)) 0 ds)
own = numerals_by_fold (λ ds. all_ascii_digits ds ≡ true) tells_all_ascii_digits (λ n ds. fold (λ m c. m * 10 + (c - 48)) n ds) (record { empty = λ n. refl; more = λ n c cs h. refl })

drop-digits : (k : ℕ) (ds : List ℕ) → all_ascii_digits ds ≡ true → all_ascii_digits (drop k ds) ≡ true
drop-digits zero ds all = all
drop-digits (suc k) [] all = all
drop-digits (suc k) (d ∷ ds) all = drop-digits k ds (both (is_ascii_digit d) (all_ascii_digits ds) all).1

-- a letter isn't among digits
unlike : (letter : ℕ) (ds : List ℕ) → 57 < letter → all_ascii_digits ds ≡ true → pointwise nat_eq (letter ∷ []) ds ≡ false
unlike letter [] above all = refl
unlike letter (d ∷ ds) above all =
    let digit = (both (is_ascii_digit d) (all_ascii_digits ds) all).0 in
    let range = both (nat_le 48 d) (nat_le d 57) digit in
    let low : d ≤ 57 = leb-true d 57 range.1 in
    let other : nat_eq letter d ≡ false = ne_eqb letter d (λ same. absurd (omega (arith, same, low, above))) in
    ap (λ (b : Bool). b && pointwise nat_eq [] ds) other

no-letter : (letter : ℕ) (text : List ℕ) → 57 < letter → all_ascii_digits text ≡ true → before letter text ≡ None
no-letter letter text above all =
    ap (λ (b : Bool). cond b (Some (take (length text - 1) text)) None) (unlike letter (drop (length text - 1) text) above (drop-digits (length text - 1) text all))

fallen : (f : List ℕ → List ℕ × ℕ) (o : Option (List ℕ)) (d : List ℕ × ℕ) → o ≡ None → option_map_or f o d ≡ d
fallen f None d e = refl
fallen f (Some t) d e = absurd cc

no-unit : (text : List ℕ) → all_ascii_digits text ≡ true → number_and_unit text ≡ (text, 1)
no-unit text all =
    fallen (λ t. (t, 1)) (before 115 text) _ (no-letter 115 text (omega arith) all)
    ∙ (fallen (λ t. (t, 60)) (before 109 text) _ (no-letter 109 text (omega arith) all)
    ∙ (fallen (λ t. (t, 3600)) (before 104 text) _ (no-letter 104 text (omega arith) all)
    ∙ (fallen (λ t. (t, 86400)) (before 100 text) _ (no-letter 100 text (omega arith) all)
    ∙ fallen (λ t. (t, 604800)) (before 119 text) (text, 1) (no-letter 119 text (omega arith) all))))

number-reads : (n : ℕ) → n < 2 ^ 64 → number_at (decimal n) ≡ Some n
number-reads n small =
    let some : nat_le 1 (length (decimal n)) ≡ true = le-leb 1 (length (decimal n)) (omega (arith, decimal_nonempty n small)) in
    let all : all_ascii_digits (decimal n) ≡ true = digits_decimal own n small in
    let value : digits_value 10 (decimal n) ≡ n = (decimal_is_IsNumeral n small).1 in
    let fits : nat_lt n (2 ^ 64) ≡ true = lt-ltb n (2 ^ 64) small in
    rw (some, all, value, fits) refl

-- the decimal text of so many seconds reads as them
pub seconds-read : (n : ℕ) → 1 ≤ n → n ≤ 31536000 → seconds_at (decimal n) ≡ Some n
seconds-read n low high =
    let small : n < 2 ^ 64 = omega (arith, high) in
    let whole : n * 1 ≡ n = omega arith in
    let above : nat_le 1 n ≡ true = le-leb 1 n low in
    let below : nat_le n 31536000 ≡ true = le-leb n 31536000 high in
    ap (λ (parts : List ℕ × ℕ). within 1 31536000 (option_map (λ (k : ℕ). k * parts.1) (number_at parts.0))) (no-unit (decimal n) (digits_decimal own n small))
    ∙ (ap (λ (o : Option ℕ). within 1 31536000 (option_map (λ (k : ℕ). k * 1) o)) (number-reads n small)
    ∙ (ap (λ (k : ℕ). within 1 31536000 (Some k)) whole
    ∙ rw (above, below) refl))
