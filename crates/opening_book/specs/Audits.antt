-- The audit of kept rows.
use Rattle.std.specs.Prelude.{ℕ, nat_le, Bool, true, false, if◌then◌else◌, List, fold, max}
use Rattle.opening_book.specs.Prelude.{AuditState, Recovery, Row, recoveries_in}
use Rattle.opening_book.specs.Prelude.row
use Rattle.opening_book.specs.Counting.{end_or, greatest_id}

-- the id of a recovery, if it is in the range of an opening
abbrev pub id_in : Row → ℕ
id_in (row.Instance i) = 0
id_in (row.Downtime d) = 0
id_in (row.Candidate c) = 0
id_in (row.Recovery k) = if nat_le k.id greatest_id then k.id else 0
id_in (row.Switch enabled) = 0
id_in (row.Active node until) = 0

abbrev pub later_id : ℕ → Row → ℕ
later_id last r = max last (id_in r)

-- the greatest such id of all rows that are handed back, those that don't count too, or 0
abbrev pub last_id : List Row → ℕ
last_id rows = fold later_id 0 rows

abbrev pub is_instance : Row → Bool
is_instance (row.Instance i) = true
is_instance (row.Downtime d) = false
is_instance (row.Candidate c) = false
is_instance (row.Recovery k) = false
is_instance (row.Switch enabled) = false
is_instance (row.Active node until) = false

-- the audit of the rows that count, by the next id, and by the block periods of clusters for rows that have none
abbrev pub audit_of : (List ℕ → ℕ) → ℕ → List Row → AuditState
audit_of period next rows = record { recoveries = recoveries_in period rows; next = next }

-- the moment, raised to the latest begun or ended moment of a recovery
abbrev pub recovery_raised : ℕ → Recovery → ℕ
recovery_raised now r = end_or (max now r.begun.0) r.ended

abbrev pub latest_recovery : ℕ → List Recovery → ℕ
latest_recovery now recoveries = fold recovery_raised now recoveries
