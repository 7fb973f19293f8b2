-- The recoveries of rows that count: they make an audit, whatever the next id, and each of them counts.
use Rattle.std.proofs.Common.{◌≡◌, ℕ, ◌<◌, ◌≤◌, true, leb, List, [], ◌∷◌, Option, Some, None, arith}
use Rattle.std.specs.Prelude.{All, ◌&&◌, unwrap_or}
use Rattle.run_laws.proofs.Prelude.{All-cons, All-head, All-nil, All-tail, All-weaker, AllPairs-filter, IsAudit, Recovery, RecoveryRow, Row}
use Rattle.run_laws.proofs.Prelude.{are_known, as_row, audit_of, both_true, counted, counts, ending_servers, filter_passes, greatest}
use Rattle.run_laws.proofs.Prelude.{is_block_in_range, is_end_in_range, is_in_range, kept-audit, le-leb, leb-true, loaded_by, longest_block, map_of}
use Rattle.run_laws.proofs.Prelude.{map_of_rising, recoveries_in, sort_key_of}
use Rattle.run_laws.proofs.Prelude.kept_row as row

-- the numbers of a recovery whose row counts
pub record IsCounted (last : ℕ) (r : Recovery) : Type 0 where
  pub low : 1 ≤ r.id
  pub high : r.id ≤ last
  pub block : r.block ≤ longest_block

module _ (count last : ℕ) (period : List ℕ → ℕ) (short : (cluster : List ℕ) → period cluster ≤ longest_block) where
  abbrev Counts : Recovery → Type 0
  Counts r = counts count last (row.Recovery (as_row r)) ≡ true

  short-block : (o : Option ℕ) (cluster : List ℕ) → is_block_in_range o ≡ true → unwrap_or o (period cluster) ≤ longest_block
  short-block None cluster h = short cluster
  short-block (Some block) cluster h = leb-true block longest_block h

  -- so does its row once its block period is kept
  loaded-counts : (k : RecoveryRow) → counts count last (row.Recovery k) ≡ true → Counts (loaded_by period k)
  loaded-counts k is =
      let parts = both_true (are_known count (k.failed.0 ∷ ending_servers k.outcome)) (is_in_range last (row.Recovery k)) is in
      let range = both_true (leb 1 k.id && leb k.id last) (leb k.begun.0 greatest && (is_end_in_range k.ended && is_block_in_range k.block)) parts.1 in
      let times = both_true (leb k.begun.0 greatest) (is_end_in_range k.ended && is_block_in_range k.block) range.1 in
      let ends = both_true (is_end_in_range k.ended) (is_block_in_range k.block) times.1 in
      let block = le-leb (unwrap_or k.block (period k.cluster)) longest_block (short-block k.block k.cluster ends.1) in
      λ i. parts.0 i && (range.0 i && (times.0 i && (ends.0 i && block i)))

  counting : (xs : List Row) → All (λ r. counts count last r ≡ true) xs → All Counts (recoveries_in period xs)
  counting [] all = All-nil Counts
  counting (row.Instance i ∷ xs) all = counting xs (All-tail (λ r. counts count last r ≡ true) (row.Instance i) xs all)
  counting (row.Downtime d ∷ xs) all = counting xs (All-tail (λ r. counts count last r ≡ true) (row.Downtime d) xs all)
  counting (row.Candidate c ∷ xs) all = counting xs (All-tail (λ r. counts count last r ≡ true) (row.Candidate c) xs all)
  counting (row.Switch e ∷ xs) all = counting xs (All-tail (λ r. counts count last r ≡ true) (row.Switch e) xs all)
  counting (row.Active node end ∷ xs) all = counting xs (All-tail (λ r. counts count last r ≡ true) (row.Active node end) xs all)
  counting (row.Recovery k ∷ xs) all =
      All-cons Counts (loaded_by period k) (recoveries_in period xs) (loaded-counts k (All-head (λ x. counts count last x ≡ true) (row.Recovery k) xs all))
      (counting xs (All-tail (λ x. counts count last x ≡ true) (row.Recovery k) xs all))

  -- each that is loaded counts
  pub counted-counts : (rows : List Row) → All Counts (recoveries_in period (counted count last rows))
  counted-counts rows = counting (counted count last rows) (filter_passes (counts count last) (map_of rows))

  -- its id is one of those that count
  pub id-counts : (r : Recovery) → Counts r → IsCounted last r
  id-counts r is =
      let range = (both_true (are_known count (r.failed.0 ∷ ending_servers r.outcome)) (is_in_range last (row.Recovery (as_row r))) is).1 in
      let parts = both_true (leb 1 r.id && leb r.id last) (leb r.begun.0 greatest && (is_end_in_range r.ended && leb r.block longest_block)) range in
      let id = both_true (leb 1 r.id) (leb r.id last) parts.0 in
      let times = both_true (leb r.begun.0 greatest) (is_end_in_range r.ended && leb r.block longest_block) parts.1 in
      let ends = both_true (is_end_in_range r.ended) (leb r.block longest_block) times.1 in
      record { low = leb-true 1 r.id id.0; high = leb-true r.id last id.1; block = leb-true r.block longest_block ends.1 }

  pub audit-of : (next : ℕ) (rows : List Row) → 1 ≤ next → last < next → IsAudit (audit_of period next (counted count last rows))
  audit-of next rows first before =
      kept-audit period (counted count last rows) next
      (record { apart = AllPairs-filter (λ a b. sort_key_of a < sort_key_of b) (counts count last) (map_of rows) (map_of_rising rows).apart }) first
      (All-weaker Counts (λ r. (1 ≤ r.id) × (r.id < next) × (r.block ≤ longest_block)) (λ r is. let id = id-counts r is in let high = id.high in (id.low, omega (arith, high, before), id.block))
      (recoveries_in period (counted count last rows)) (counted-counts rows))
