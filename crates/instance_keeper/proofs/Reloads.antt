-- A book that is loaded anew, place after place.
use Rattle.std.proofs.Common.{◌≡◌, ◌∙◌, ℕ, zero, suc, ◌<◌, ◌≤◌, ◌+◌, Bool, true, false, List, [], ◌∷◌, length, replicate, drop, get_or, add-one, Option, None, Some, refl, sym, ap, subst, arith, ◌&&◌, nat_le, if◌then◌else◌, slice_set}
use Rattle.instance_keeper.proofs.Prelude.{BookState, Bridge, Candidate, Downtime, Instance, IsBook, IsNumbered, Row, after_put, after_row, drop-cons, drop-set-lt}
use Rattle.instance_keeper.proofs.Prelude.{empty_book, first_of, first_set, head_known, leb-false, leb-true, length-map, length-replicate, place_from}
use Rattle.instance_keeper.proofs.Prelude.{row_fits, source_servers}
use Rattle.instance_keeper.proofs.Prelude.row
use Rattle.instance_keeper.proofs.Books.{numbered_none}

-- ---- the first places

pub first_none : {A : Type 0} (xs : List (Option A)) → first_of zero xs ≡ replicate (length xs) None
first_none [] = refl
first_none (x ∷ xs) = ap (λ ys. None ∷ ys) (first_none xs)

pub first_all : {A : Type 0} (k : ℕ) (xs : List (Option A)) → length xs ≤ k → first_of k xs ≡ xs
first_all k [] past = refl
first_all zero (x ∷ xs) past = absurd (omega (arith, past))
first_all (suc k) (x ∷ xs) past = ap (λ ys. x ∷ ys) (first_all k xs (omega (arith, past)))

-- an emptied place counts as set
pub first_emptied : {A : Type 0} (k : ℕ) (xs : List (Option A)) → first_of (suc k) (slice_set xs k None) ≡ first_of k xs
first_emptied k [] = refl
first_emptied zero (x ∷ xs) = refl
first_emptied (suc k) (x ∷ xs) = ap (λ ys. x ∷ ys) (first_emptied k xs)

-- the next place takes a value
pub first_next : {A : Type 0} (k : ℕ) (v : Option A) (xs : List (Option A)) → first_of (suc k) (slice_set xs k v) ≡ slice_set (first_of k xs) k v
first_next k v [] = refl
first_next zero v (x ∷ xs) = refl
first_next (suc k) v (x ∷ xs) = ap (λ ys. x ∷ ys) (first_next k v xs)

-- one of the first places takes a value
pub first_again : {A : Type 0} (k n : ℕ) (v : Option A) (xs : List (Option A)) → n < k → first_of k (slice_set xs n v) ≡ slice_set (first_of k xs) n v
first_again k n v [] less = refl
first_again zero n v (x ∷ xs) less = absurd (omega (arith, less))
first_again (suc k) zero v (x ∷ xs) less = refl
first_again (suc k) (suc n) v (x ∷ xs) less = ap (λ ys. x ∷ ys) (first_again k n v xs (omega (arith, less)))

-- ---- rows that are used up, one after another

-- the next one is as it was at first, and those after it
pub used_next : {A : Type 0} (now first : List A) (k : ℕ) (left d : A) → drop k now ≡ drop k first → length now ≡ length first → k < length now
    → (get_or now k d ≡ get_or first k d) × (drop (k + 1) (slice_set now k left) ≡ drop (k + 1) first)
used_next now first k left d same count within =
    let both : get_or now k d ∷ drop (suc k) now ≡ get_or first k d ∷ drop (suc k) first = sym (drop-cons now k d within) ∙ (same ∙ drop-cons first k d (omega (arith, within, count))) in
    let rest : drop (suc k) now ≡ drop (suc k) first = ap (drop 1) both in
    let suc_k = add-one k in
    (ap (λ l. get_or l 0 d) both, drop-set-lt (k + 1) now k left (omega arith) ∙ (ap (λ n. drop n now) suc_k ∙ (rest ∙ ap (λ n. drop n first) (sym suc_k))))

-- ---- the book with them

pub all_set : (k : ℕ) (b : BookState) → k ≡ length b.instances → first_set k b ≡ b
all_set k b all = ap (λ xs. record b { instances = xs }) (first_all k b.instances (omega (arith, all)))

pub none_set : (b : BookState) → IsBook b → first_set zero (record (empty_book b.settings) { instances = b.instances }) ≡ empty_book b.settings
none_set b is =
    let len : length b.instances ≡ length b.settings = is.instances ∙ (ap length is.named ∙ length-map b.settings (λ s. s.name)) in
    ap (λ xs. record (empty_book b.settings) { instances = xs }) (first_none b.instances ∙ ap (λ (n : ℕ). replicate n None) len)

-- a book that keeps its servers and instances alone
pub rest_cleared : (b : BookState) (downtimes : List (Option Downtime)) (candidates : List (Option Candidate)) (rings : List (List Bridge)) (leases : List (Option ℕ))
    → IsBook b → downtimes ≡ replicate (length b.downtimes) None → candidates ≡ replicate (length b.candidates) None → length rings ≡ length b.rings → length leases ≡ length b.leases
    → IsBook (record b { downtimes = downtimes; candidates = candidates; switch = None; rings = rings; leases = leases })
rest_cleared b downtimes candidates rings leases is d c r l = record {
  small = is.small;
  named = is.named;
  instances = is.instances;
  downtimes = ap length d ∙ (length-replicate (length b.downtimes) None ∙ is.downtimes);
  candidates = ap length c ∙ (length-replicate (length b.candidates) None ∙ is.candidates);
  rings = r ∙ is.rings;
  leases = l ∙ is.leases;
  instance_numbers = is.instance_numbers;
  downtime_numbers = subst (IsNumbered (λ d. d.no) 0) (sym d) (numbered_none (λ d. d.no) 0 (length b.downtimes));
  candidate_numbers = subst (IsNumbered (λ c. c.no) 0) (sym c) (numbered_none (λ c. c.no) 0 (length b.candidates));
  sources = is.sources;
}

-- ---- a row

-- what is known of the place that a row sets
pub record IsPlace (next count : ℕ) (r : Row) (n : ℕ) : Type 0 where
  pub from : next ≤ n
  pub within : n < count
  pub taken : row_fits count r ≡ true
  pub set : (b : BookState) → length b.names ≡ count → first_set (suc n) (after_put b r) ≡ after_row (first_set n b) r

taken_row : (b : BookState) (r : Row) → row_fits (length b.names) r ≡ true → after_put b r ≡ after_row b r
taken_row b r fits = rw fits refl

passed_row : (b : BookState) (r : Row) → row_fits (length b.names) r ≡ false → b ≡ after_row b r
passed_row b r fits = rw fits refl

some_none : {n : ℕ} → Some n ≡ None → ⊥
some_none e = cc

placed_by : (next count : ℕ) (i : Instance) (n : ℕ) (later fits : Bool) → nat_le next i.no.0 ≡ later → row_fits count (row.Instance i) ≡ fits
    → (if later && fits then Some i.no.0 else None) ≡ Some n → IsPlace next count (row.Instance i) n
placed_by next count i n true true later fits is =
    let same : i.no.0 ≡ n = cc in
    subst (IsPlace next count (row.Instance i)) same (record {
      from = leb-true next i.no.0 later;
      within = head_known count i.no.0 (source_servers i.seen.source) fits;
      taken = fits;
      set = λ b len.
          ap (λ xs. record b { instances = xs }) (first_next i.no.0 (Some i) b.instances)
          ∙ taken_row (first_set i.no.0 b) (row.Instance i) (ap (λ (k : ℕ). row_fits k (row.Instance i)) len ∙ fits);
    })
placed_by next count i n true false later fits is = absurd (some_none (sym is))
placed_by next count i n false fits later known is = absurd (some_none (sym is))

pub placed : (next count : ℕ) (r : Row) (n : ℕ) → place_from next count r ≡ Some n → IsPlace next count r n
placed next count (row.Instance i) n is = placed_by next count i n (nat_le next i.no.0) (row_fits count (row.Instance i)) refl refl is
placed next count _ n is = absurd (some_none (sym is))

-- a row that sets no place from the next one on
commuted_by : (next : ℕ) (b : BookState) (r : Row) (fits : Bool) → row_fits (length b.names) r ≡ fits → first_set next (after_put b r) ≡ after_put (first_set next b) r
    → first_set next (after_row b r) ≡ after_row (first_set next b) r
commuted_by next b r true fits same = ap (first_set next) (sym (taken_row b r fits)) ∙ (same ∙ taken_row (first_set next b) r fits)
commuted_by next b r false fits same = ap (first_set next) (sym (passed_row b r fits)) ∙ passed_row (first_set next b) r fits

commuted : (next : ℕ) (b : BookState) (r : Row) → first_set next (after_put b r) ≡ after_put (first_set next b) r → first_set next (after_row b r) ≡ after_row (first_set next b) r
commuted next b r same = commuted_by next b r (row_fits (length b.names) r) refl same

unplaced_by : (next : ℕ) (b : BookState) (i : Instance) (later fits : Bool) → nat_le next i.no.0 ≡ later → row_fits (length b.names) (row.Instance i) ≡ fits
    → (if later && fits then Some i.no.0 else None) ≡ None → first_set next (after_row b (row.Instance i)) ≡ after_row (first_set next b) (row.Instance i)
unplaced_by next b i true true later fits is = absurd (some_none is)
unplaced_by next b i true false later fits is = ap (first_set next) (sym (passed_row b (row.Instance i) fits)) ∙ passed_row (first_set next b) (row.Instance i) fits
unplaced_by next b i false fits later known is =
    commuted next b (row.Instance i) (ap (λ xs. record b { instances = xs }) (first_again next i.no.0 (Some i) b.instances (leb-false next i.no.0 later)))

pub unplaced : (next : ℕ) (b : BookState) (r : Row) → place_from next (length b.names) r ≡ None → first_set next (after_row b r) ≡ after_row (first_set next b) r
unplaced next b (row.Instance i) is = unplaced_by next b i (nat_le next i.no.0) (row_fits (length b.names) (row.Instance i)) refl refl is
unplaced next b x is = commuted next b x refl
