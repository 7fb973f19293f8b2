-- A change with its row on the heap, as contracts see it.
use Rattle.std.specs.Prelude.{Option, None, Some}
use Rattle.kept_rows.specs.declared.row.Row.{Row}
use Rattle.kept_rows.specs.declared.row.Table.{Table}
use Rattle.kept_rows.specs.declared.row.Key.{Key}
use Rattle.kept_rows.specs.declared.row.Change.{Change}
use Rattle.kept_rows.specs.declared.row.Change.TheVariants as change

-- it puts a row, or removes that of a table and key
abbrev pub edit_by : Option Row → Table → Key → Change
edit_by (Some r) t k = change.Put r
edit_by None t k = change.Remove t k
