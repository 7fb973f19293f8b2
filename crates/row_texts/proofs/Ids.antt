-- What `parse` answers for an id, and an id's text.
use Rattle.row_texts.proofs.Prelude.{ParsesUnsigned, all_ascii_digits, and_parts as both, by_tests, bytes_eq, decimal-digits_value, digits_decimal}
use Rattle.row_texts.proofs.Prelude.{digits_value, digits_value-decimal, false≢true, first_decimal, id_printed, is_id, le-leb, leb-true, lt-ltb}
use Rattle.row_texts.proofs.Prelude.{ltb-true, not_empty, own, parse_plain, result_ok, same_text}
use Rattle.std.proofs.Common.{◌≡◌, ◌≢◌, ℕ, zero, suc, ◌^◌, ◌<◌, ◌≤◌, Bool, true, false, cond, leb, ltb, List, length, get_or, Some, None, Result, refl, sym, ap, ◌∙◌, subst, arith, ◌&&◌, ◌||◌, codes, decimal}

-- what an id begins with, and that it isn't empty
record Begins (bs : List ℕ) : Type 0 where
  not_plus : get_or bs 0 0 ≢ 43
  some : 0 < length bs
  zero_alone : get_or bs 0 0 ≡ 48 → length bs ≡ 1

begins : (bs : List ℕ) (a b : Bool) → leb 49 (get_or bs 0 0) ≡ a → bytes_eq bs (codes "0") ≡ b → (a || b) ≡ true → Begins bs
begins bs true b first same e =
    let big : 49 ≤ get_or bs 0 0 = leb-true _ _ first in
    record { not_plus = omega arith; some = not_empty bs big; zero_alone = λ z. absurd (omega (arith, z, big)) }
begins bs false true first same e =
    let is : codes "0" ≡ bs = sym (same_text bs (codes "0") (sym same)) in
    subst Begins is (record { not_plus = omega arith; some = omega arith; zero_alone = λ z. refl })
begins bs false false first same e = absurd (false≢true e)

pub id_from_parse : {E : Type 0} (bs : List ℕ) (r : Result ℕ E) → (leb 49 (get_or bs 0 0) || bytes_eq bs (codes "0")) ≡ true → ParsesUnsigned 64 10 bs r → result_ok r ≡ id_printed bs
unfolding id_printed
id_from_parse bs r first h =
    let b = begins bs (leb 49 (get_or bs 0 0)) (bytes_eq bs (codes "0")) refl refl first in
    let p = parse_plain own 64 bs r h b.not_plus in
    let tests = by_tests (all_ascii_digits bs) (ltb (digits_value 10 bs) (2 ^ 64)) (digits_value 10 bs) r _ p (λ h. (h.0, lt-ltb _ _ h.2)) (λ digits small. (digits, b.some, ltb-true _ _ small)) in
    rw first tests

-- ---- an id by its text, and back

decimal_zero : decimal 0 ≡ codes "0"
decimal_zero = decimal-digits_value own (codes "0") refl (omega arith) (λ z. refl) (omega arith)

decimal_begins : (id : ℕ) → id < 2 ^ 64 → (leb 49 (get_or (decimal id) 0 0) || bytes_eq (decimal id) (codes "0")) ≡ true
decimal_begins zero small = rw decimal_zero refl
decimal_begins (suc n) small =
    let first : 48 < get_or (decimal (suc n)) 0 0 = first_decimal (suc n) (omega arith) small in
    rw (le-leb 49 (get_or (decimal (suc n)) 0 0) (omega (arith, first))) refl

pub id_reads : (id : ℕ) → id < 2 ^ 64 → id_printed (decimal id) ≡ Some id
unfolding id_printed
id_reads id small =
    let value : digits_value 10 (decimal id) ≡ id = digits_value-decimal own id small in
    rw (decimal_begins id small, digits_decimal own id small, value, lt-ltb id (2 ^ 64) small) refl

some_same : (a b : ℕ) → Some a ≡ Some b → a ≡ b
some_same a b e = cc

pub id_back : (s : List ℕ) (id : ℕ) → id_printed s ≡ Some id → s ≡ decimal id
unfolding id_printed
id_back s id e = told (is_id s) refl e
  where
    told : (t : Bool) → is_id s ≡ t → cond t (Some (digits_value 10 s)) None ≡ Some id → s ≡ decimal id
    told true is e =
        let one = both ((leb 49 (get_or s 0 0) || bytes_eq s (codes "0")) && all_ascii_digits s) (ltb (digits_value 10 s) (2 ^ 64)) is in
        let two = both (leb 49 (get_or s 0 0) || bytes_eq s (codes "0")) (all_ascii_digits s) one.0 in
        let b = begins s (leb 49 (get_or s 0 0)) (bytes_eq s (codes "0")) refl refl two.0 in
        let same : digits_value 10 s ≡ id = some_same _ _ e in
        sym (ap decimal (sym same) ∙ decimal-digits_value own s two.1 b.some b.zero_alone (ltb-true _ _ one.1))
    told false is e = absurd cc

pub id_small : (s : List ℕ) (id : ℕ) → id_printed s ≡ Some id → id < 2 ^ 64
unfolding id_printed
id_small s id e = told (is_id s) refl e
  where
    told : (t : Bool) → is_id s ≡ t → cond t (Some (digits_value 10 s)) None ≡ Some id → id < 2 ^ 64
    told true is e =
        let one = both ((leb 49 (get_or s 0 0) || bytes_eq s (codes "0")) && all_ascii_digits s) (ltb (digits_value 10 s) (2 ^ 64)) is in
        subst (λ (n : ℕ). n < 2 ^ 64) (some_same _ _ e) (ltb-true _ _ one.1)
    told false is e = absurd cc
