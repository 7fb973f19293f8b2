-- The recoveries of kept rows.
use Rattle.std.specs.Prelude.{ℕ, List, filter_map, map, Option, None, Some}
use Rattle.kept_rows.specs.Recoveries.{as_recovery}
use Rattle.kept_rows.specs.declared.recovery.Recovery.{Recovery}
use Rattle.kept_rows.specs.declared.recovery.RecoveryRow.{RecoveryRow}
use Rattle.kept_rows.specs.declared.row.Row.{Row}
use Rattle.kept_rows.specs.declared.row.Row.TheVariants as row

-- the recovery that a row keeps, by its cluster's block period for a row that has none
abbrev pub loaded_by : (List ℕ → ℕ) → RecoveryRow → Recovery
loaded_by period k = as_recovery (period k.cluster) k

abbrev pub recovery_row_in : Row → Option RecoveryRow
recovery_row_in (row.Instance i) = None
recovery_row_in (row.Downtime d) = None
recovery_row_in (row.Candidate c) = None
recovery_row_in (row.Recovery k) = Some k
recovery_row_in (row.Switch enabled) = None
recovery_row_in (row.Active node until) = None

-- the rows of recoveries among some rows, in their order
abbrev pub recovery_rows_in : List Row → List RecoveryRow
recovery_rows_in rows = filter_map recovery_row_in rows

-- the recoveries that they keep
abbrev pub recoveries_in : (List ℕ → ℕ) → List Row → List Recovery
recoveries_in period rows = map (loaded_by period) (recovery_rows_in rows)
