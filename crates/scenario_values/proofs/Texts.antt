-- Texts of versions and UUIDs.
use Rattle.std.proofs.Common.{◌≡◌, ℕ, Bool, true, false, cond, List, [], ◌∷◌, length, Option, Some, None, Result, refl, sym, ap, ◌∙◌, arith, leb, ◌&&◌}
use Rattle.scenario_values.proofs.Prelude.{BadUuid, ParsesUnsigned, all_ascii_digits, by_tests, digits_value, fails, is_ascii_digit, le-leb, leb-true}
use Rattle.scenario_values.proofs.Prelude.{list_all, own, parse_digits, parsed, parsed_hyphenated, result_ok, uuid_or_fails, version_part}

all_digits : (ds : List ℕ) → list_all is_ascii_digit ds ≡ all_ascii_digits ds
all_digits [] = refl
all_digits (d ∷ ds) = ap (λ (b : Bool). is_ascii_digit d && b) (all_digits ds)

third_holds : (a b c : Bool) → b ≡ true → (a && c) ≡ (a && b && c)
third_holds true true c e = refl
third_holds false b c e = refl
third_holds true false c e = absurd cc

one_fails : (a b c : Bool) → b ≡ false → (a && b && c) ≡ false
one_fails true true c e = absurd cc
one_fails false b c e = refl
one_fails true false c e = refl

pub version_part-parse : {E : Type 0} (bs : List ℕ) (r : Result ℕ E) → list_all is_ascii_digit bs ≡ true → ParsesUnsigned 16 10 bs r → result_ok r ≡ version_part bs
version_part-parse bs r digits h =
    let all : all_ascii_digits bs ≡ true = sym (all_digits bs) ∙ digits in
    let tests = by_tests (leb 1 (length bs)) (leb (digits_value 10 bs) 65535) (digits_value 10 bs) r _ (parse_digits own 16 bs r h all)
    (λ p. (le-leb _ _ (omega arith), le-leb _ _ (omega arith)))
    (λ some small. (omega (arith, leb-true _ _ some), omega (arith, leb-true _ _ small))) in
    tests ∙ ap (λ (b : Bool). cond b (Some (digits_value 10 bs)) None) (third_holds (leb 1 (length bs)) (all_ascii_digits bs) (leb (digits_value 10 bs) 65535) all)

-- a text with another byte is no part
pub version_part-other : (bs : List ℕ) → list_all is_ascii_digit bs ≡ false → version_part bs ≡ None
version_part-other bs other =
    ap (λ (b : Bool). cond b (Some (digits_value 10 bs)) None) (one_fails (leb 1 (length bs)) (all_ascii_digits bs) (leb (digits_value 10 bs) 65535) (sym (all_digits bs) ∙ other))

at_36 : (s : List ℕ) → length s ≡ 36 → parsed s ≡ parsed_hyphenated s
at_36 s len = rw len refl

no_uuid : (r : Option (List ℕ)) → ((u : List ℕ) → r ≡ Some u → ⊥) → uuid_or_fails r ≡ fails BadUuid
no_uuid None h = refl
no_uuid (Some u) h = absurd (h u refl)

-- a UUID that does not parse
pub uuid_none : (s : List ℕ) → length s ≡ 36 → ((u : List ℕ) → parsed s ≡ Some u → ⊥) → uuid_or_fails (parsed_hyphenated s) ≡ fails BadUuid
uuid_none s len none = no_uuid (parsed_hyphenated s) (λ u e. none u (at_36 s len ∙ e))
