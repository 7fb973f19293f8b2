-- The recoveries of kept rows rise by id.
use Rattle.std.proofs.Common.{◌≡◌, ℕ, ◌+◌, ◌<◌, ◌≤◌, List, [], ◌∷◌, ◌++◌, length, get_or, map, take, zero, suc, refl, sym, ◌∙◌, ap, Bor, Option, Some, None, arith, All, AllPairs, filter_map, option_map}
use Rattle.audit_log.proofs.Prelude.{All-cons, All-head, All-nil, All-tail, All-weaker, IsAudit, IsRising, Recovery, RecoveryRow, Row, append-nil}
use Rattle.audit_log.proofs.Prelude.{filter_map-append, loaded_by, longest_block, map-append, option_copied, option_to_list, recoveries_in}
use Rattle.audit_log.proofs.Prelude.{recovery_row_in, recovery_rows_in, sort_key_of, take_more}
use Rattle.audit_log.proofs.Prelude.row

abbrev Precedes : Row → Row → Type 0
Precedes a b = sort_key_of a < sort_key_of b

first-precedes : (x : Row) (xs : List Row) → AllPairs Precedes (x ∷ xs) → All (Precedes x) xs
first-precedes x xs pairs k d within = pairs 0 (suc k) d (omega arith) (omega (arith, within))

rest-precede : (x : Row) (xs : List Row) → AllPairs Precedes (x ∷ xs) → AllPairs Precedes xs
rest-precede x xs pairs i j d before within = pairs (suc i) (suc j) d (omega (arith, before)) (omega (arith, within))

pairs-cons : (x : Recovery) (xs : List Recovery) → All (λ y. x.id < y.id) xs → AllPairs (λ (x y : Recovery). x.id < y.id) xs → AllPairs (λ (x y : Recovery). x.id < y.id) (x ∷ xs)
pairs-cons x xs first rest zero zero d before within = absurd (omega arith)
pairs-cons x xs first rest zero (suc j) d before within = first j d (omega (arith, within))
pairs-cons x xs first rest (suc i) zero d before within = absurd (omega (arith, before))
pairs-cons x xs first rest (suc i) (suc j) d before within = rest i j d (omega (arith, before)) (omega (arith, within))

abbrev IsEntry : ℕ → Recovery → Type 0
IsEntry next r = (1 ≤ r.id) × (r.id < next) × (r.block ≤ longest_block)

module _ (period : List ℕ → ℕ) where
  later-ids : (k : RecoveryRow) (xs : List Row) → All (Precedes (row.Recovery k)) xs → All (λ x. k.id < x.id) (recoveries_in period xs)
  later-ids k [] all = All-nil (λ (x : Recovery). k.id < x.id)
  later-ids k (row.Instance i ∷ xs) all = later-ids k xs (All-tail (Precedes (row.Recovery k)) (row.Instance i) xs all)
  later-ids k (row.Downtime d ∷ xs) all = later-ids k xs (All-tail (Precedes (row.Recovery k)) (row.Downtime d) xs all)
  later-ids k (row.Candidate c ∷ xs) all = later-ids k xs (All-tail (Precedes (row.Recovery k)) (row.Candidate c) xs all)
  later-ids k (row.Recovery x ∷ xs) all =
      let here = All-head (Precedes (row.Recovery k)) (row.Recovery x) xs all in
      All-cons (λ (y : Recovery). k.id < y.id) (loaded_by period x) (recoveries_in period xs) (omega (arith, here)) (later-ids k xs (All-tail (Precedes (row.Recovery k)) (row.Recovery x) xs all))
  later-ids k (row.Switch s ∷ xs) all = later-ids k xs (All-tail (Precedes (row.Recovery k)) (row.Switch s) xs all)
  later-ids k (row.Active node until ∷ xs) all = later-ids k xs (All-tail (Precedes (row.Recovery k)) (row.Active node until) xs all)

  ids-rise : (xs : List Row) → AllPairs Precedes xs → AllPairs (λ (x y : Recovery). x.id < y.id) (recoveries_in period xs)
  ids-rise [] pairs = λ i j d before within. absurd (omega (arith, within))
  ids-rise (row.Instance x ∷ xs) pairs = ids-rise xs (rest-precede (row.Instance x) xs pairs)
  ids-rise (row.Downtime x ∷ xs) pairs = ids-rise xs (rest-precede (row.Downtime x) xs pairs)
  ids-rise (row.Candidate x ∷ xs) pairs = ids-rise xs (rest-precede (row.Candidate x) xs pairs)
  ids-rise (row.Recovery x ∷ xs) pairs =
      pairs-cons (loaded_by period x) (recoveries_in period xs) (later-ids x xs (first-precedes (row.Recovery x) xs pairs)) (ids-rise xs (rest-precede (row.Recovery x) xs pairs))
  ids-rise (row.Switch x ∷ xs) pairs = ids-rise xs (rest-precede (row.Switch x) xs pairs)
  ids-rise (row.Active node until ∷ xs) pairs = ids-rise xs (rest-precede (row.Active node until) xs pairs)

  pub kept-audit : (rows : List Row) (next : ℕ) → IsRising rows → 1 ≤ next → All (λ r. (1 ≤ r.id) × (r.id < next) × (r.block ≤ longest_block)) (recoveries_in period rows)
      → IsAudit (record { recoveries = recoveries_in period rows; next = next })
  kept-audit rows next rising first all = record {
    first = first;
    rising = ids-rise rows rising.apart;
    above = All-weaker (IsEntry next) (λ r. 1 ≤ r.id) (λ r h. h.0) (recoveries_in period rows) all;
    below = All-weaker (IsEntry next) (λ r. r.id < next) (λ r h. h.1) (recoveries_in period rows) all;
    short = All-weaker (IsEntry next) (λ r. r.block ≤ longest_block) (λ r h. h.2) (recoveries_in period rows) all;
  }

-- one more row
pub loaded-more : (period : List ℕ → ℕ) (rows : List Row) (i : ℕ) (d : Row) (k : Option RecoveryRow) → i < length rows → recovery_row_in (get_or rows i d) ≡ k
    → recoveries_in period (take (i + 1) rows) ≡ recoveries_in period (take i rows) ++ option_to_list (option_map (loaded_by period) k)
loaded-more period rows i d k within is =
    ap (map (loaded_by period))
    (ap recovery_rows_in (take_more rows i d within)
    ∙ filter_map-append recovery_row_in (take i rows) (get_or rows i d ∷ [])
    ∙ ap (λ xs. recovery_rows_in (take i rows) ++ xs) (go (recovery_row_in (get_or rows i d)) k is))
    ∙ map-append (loaded_by period) (recovery_rows_in (take i rows)) (option_to_list k)
    ∙ ap (λ xs. recoveries_in period (take i rows) ++ xs) (one k)
  where
    go : (f g : Option RecoveryRow) → f ≡ g → filter_map (λ (x : Row). f) (get_or rows i d ∷ []) ≡ option_to_list g
    go None g h = ap option_to_list h
    go (Some x) g h = ap option_to_list h

    one : (o : Option RecoveryRow) → map (loaded_by period) (option_to_list o) ≡ option_to_list (option_map (loaded_by period) o)
    one None = refl
    one (Some x) = refl

pub loaded-none : (period : List ℕ → ℕ) (rows : List Row) (i : ℕ) (d : Row) (found : Option (Bor RecoveryRow)) → i < length rows → option_copied found ≡ recovery_row_in (get_or rows i d)
    → ((k : Bor RecoveryRow) → found ≡ Some k → ⊥) → recoveries_in period (take i rows) ≡ recoveries_in period (take (i + 1) rows)
loaded-none period rows i d None within is none = sym (loaded-more period rows i d None within (sym is) ∙ append-nil (recoveries_in period (take i rows)))
loaded-none period rows i d (Some k) within is none = absurd (none k refl)
