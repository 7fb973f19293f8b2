-- Whether intervals are a set, as a test; and which set is printed as a text.
use Rattle.kept_rows.proofs.GtidSets.Inserts.{set_rest as tail_set}
use Rattle.row_texts.proofs.Prelude.{All-cons, All-head, AllPairs-cons, AllPass-from_list_all, GtidFault, HasThose, Interval, IsInterval}
use Rattle.row_texts.proofs.Prelude.{IsSet, and_parts as both, as_set, bytes_eq, eq-eqb, false≢true, high, is_interval, is_set, largest, le-leb}
use Rattle.row_texts.proofs.Prelude.{leb-true, list_all, list_all-from_AllPass, low, lt-ltb, ltb-true, printed as set_text, same_sets_lem, same_text}
use Rattle.row_texts.proofs.Prelude.{set_printed, text_at}
use Rattle.row_texts.proofs.Prelude.RoundTrip.{printed_reads_lem}
use Rattle.std.proofs.Common.{◌≡◌, ℕ, zero, suc, ◌+◌, ◌<◌, ◌^◌, Bool, true, false, cond, leb, ltb, List, [], ◌∷◌, All, Some, None, Result, Ok, Err, refl, sym, ap, ◌∙◌, arith, ◌&&◌}

interval_told : (s : Interval) → is_interval s ≡ true → IsInterval s
interval_told s e =
    let a = both ((ltb s.uuid (2 ^ 128) && leb 1 s.first) && leb s.first s.last) (leb s.last largest) e in
    let b = both (ltb s.uuid (2 ^ 128) && leb 1 s.first) (leb s.first s.last) a.0 in
    let c = both (ltb s.uuid (2 ^ 128)) (leb 1 s.first) b.0 in
    record { uuid_fits = ltb-true _ _ c.0; above_zero = leb-true _ _ c.1; rises = leb-true _ _ b.1; in_range = leb-true _ _ a.1 }

is_told : (s : Interval) → IsInterval s → is_interval s ≡ true
is_told s h = rw (lt-ltb _ _ h.uuid_fits, le-leb _ _ h.above_zero, le-leb _ _ h.rises, le-leb _ _ h.in_range) refl

above : (s : Interval) (xs : List Interval) → list_all (λ t. ltb (high s + 1) (low t)) xs ≡ true → All (λ t. high s + 1 < low t) xs
above s xs e = λ k d h. ltb-true _ _ (AllPass-from_list_all (λ t. ltb (high s + 1) (low t)) xs e k d h)

is_above : (s : Interval) (xs : List Interval) → All (λ t. high s + 1 < low t) xs → list_all (λ t. ltb (high s + 1) (low t)) xs ≡ true
is_above s xs h = list_all-from_AllPass (λ t. ltb (high s + 1) (low t)) xs (λ k d l. lt-ltb _ _ (h k d l))

pub set_from_is : (xs : List Interval) → is_set xs ≡ true → IsSet xs
set_from_is [] e = record { each = λ k d h. absurd (omega (arith, h)); apart = λ i j d l h. absurd (omega (arith, h)) }
set_from_is (s ∷ xs) e =
    let a = both (is_interval s && list_all (λ t. ltb (high s + 1) (low t)) xs) (is_set xs) e in
    let b = both (is_interval s) (list_all (λ t. ltb (high s + 1) (low t)) xs) a.0 in
    let rest = set_from_is xs a.1 in
    record {
      each = All-cons IsInterval s xs (interval_told s b.0) rest.each;
      apart = AllPairs-cons (λ s t. high s + 1 < low t) s xs (above s xs b.1) rest.apart;
    }

pub is_from_set : (xs : List Interval) → IsSet xs → is_set xs ≡ true
is_from_set [] h = refl
is_from_set (s ∷ xs) h =
    rw (is_told s (All-head IsInterval s xs h.each), is_above s xs (λ k d l. h.apart zero (suc k) d (omega arith) (omega (arith, l))), is_from_set xs (tail_set s xs h)) refl

-- ---- which set is printed

pub same_refl : (xs : List ℕ) → bytes_eq xs xs ≡ true
same_refl [] = refl
same_refl (x ∷ xs) = rw (eq-eqb x x refl, same_refl xs) refl

pub set_reads : (xs : List Interval) → IsSet xs → set_printed (set_text xs) ≡ Some xs
unfolding set_printed
set_reads xs h = rw (printed_reads_lem xs h, is_from_set xs h, same_refl (set_text xs)) refl

agrees : (s : List ℕ) (set : List Interval) (r : Result (List Interval) GtidFault) (b : Bool) → r ≡ text_at s → HasThose set r → IsSet set → bytes_eq (set_text set) s ≡ b
    → as_set s r ≡ cond b (Some set) None
agrees s set r true is held whole told =
    let same : set_text set ≡ s = same_text (set_text set) s (sym told) in
    let reads : r ≡ Ok set = is ∙ (ap text_at (sym same) ∙ printed_reads_lem set whole) in
    rw (reads, is_from_set set whole, told) refl
agrees s set (Ok xs) false is held whole told = other (is_set xs && bytes_eq (set_text xs) s) refl
  where
    other : (t : Bool) → (is_set xs && bytes_eq (set_text xs) s) ≡ t → cond t (Some xs) None ≡ None
    other false e = refl
    other true e =
        let parts = both (is_set xs) (bytes_eq (set_text xs) s) e in
        let same : set ≡ xs = same_sets_lem set xs whole (set_from_is xs parts.0) held in
        absurd (false≢true (sym told ∙ (ap (λ (x : List Interval). bytes_eq (set_text x) s) same ∙ parts.1)))
agrees s set (Err e) false is held whole told = absurd held

pub set_told : (s : List ℕ) (set : List Interval) → HasThose set (text_at s) → IsSet set → true ≡ bytes_eq (set_text set) s → Some set ≡ set_printed s
unfolding set_printed
set_told s set held whole told = sym (agrees s set (text_at s) true refl held whole (sym told))

pub set_not_told : (s : List ℕ) (set : List Interval) → HasThose set (text_at s) → IsSet set → false ≡ bytes_eq (set_text set) s → None ≡ set_printed s
unfolding set_printed
set_not_told s set held whole told = sym (agrees s set (text_at s) false refl held whole (sym told))

pub no_set : (s : List ℕ) (e : GtidFault) → text_at s ≡ Err e → None ≡ set_printed s
unfolding set_printed
no_set s e is = rw is refl
