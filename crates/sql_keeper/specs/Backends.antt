-- The places of rows: a row store in memory has known rows, and a file hasn't.
use Rattle.std.specs.Prelude.{ℕ, List, Option, None, Some}
use Rattle.kept_rows.specs.declared.row.Row.{Row}
use Rattle.sql_keeper.specs.declared.backend.Backend.{Backend}
use Rattle.sql_keeper.specs.declared.backend.Backend.TheVariants as backend

abbrev pub kept_in : Backend → Option (List Row)
kept_in (backend.Memory k) = Some k.rows
kept_in (backend.File k) = None

abbrev pub faults_in : Backend → ℕ
faults_in (backend.Memory k) = k.faults
faults_in (backend.File k) = k.faults
