-- Recoveries, and the rows that keep them.
use Rattle.std.specs.Prelude.{ℕ, Some, unwrap_or}
use Rattle.kept_rows.specs.declared.recovery.Recovery.{Recovery}
use Rattle.kept_rows.specs.declared.recovery.RecoveryRow.{RecoveryRow}
use Rattle.kept_rows.specs.declared.row.Row.TheVariants as row
use Rattle.kept_rows.specs.declared.row.Change.{Change}
use Rattle.kept_rows.specs.declared.row.Change.TheVariants as change

-- the row that keeps a recovery
abbrev pub as_row : Recovery → RecoveryRow
as_row r = record {
  id = r.id;
  cluster = r.cluster;
  kind = r.kind;
  failed = r.failed;
  begun = r.begun;
  ended = r.ended;
  outcome = r.outcome;
  acked = r.acked;
  block = Some r.block;
}

-- the recovery that a row keeps, by a block period for a row that has none
abbrev pub as_recovery : ℕ → RecoveryRow → Recovery
as_recovery period k = record {
  id = k.id;
  cluster = k.cluster;
  kind = k.kind;
  failed = k.failed;
  begun = k.begun;
  ended = k.ended;
  outcome = k.outcome;
  acked = k.acked;
  block = unwrap_or k.block period;
}

abbrev pub put_recovery : Recovery → Change
put_recovery r = change.Put (row.Recovery (as_row r))
