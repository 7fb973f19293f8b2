-- Kept rows: a finite map from tables and keys to rows, as the list of its rows in rising order.
use Rattle.std.specs.Prelude.{ℕ, ◌+◌, ◌*◌, ◌^◌, ◌<◌, ◌==◌, nat_lt, List, [], ◌∷◌, ◌++◌, Option, None, Some, if◌then◌else◌, filter, find, fold}
use Rattle.std.specs.List.{AllPairs}
use Rattle.kept_rows.specs.declared.row.Row.{Row}
use Rattle.kept_rows.specs.declared.row.Row.TheVariants as row
use Rattle.kept_rows.specs.declared.row.Table.{Table}
use Rattle.kept_rows.specs.declared.row.Table.TheVariants as table
use Rattle.kept_rows.specs.declared.row.Key.{Key}
use Rattle.kept_rows.specs.declared.row.Key.TheVariants as key
use Rattle.kept_rows.specs.declared.row.Change.{Change}
use Rattle.kept_rows.specs.declared.row.Change.TheVariants as change

abbrev pub table_of : Row → Table
table_of (row.Instance i) = table.Instance
table_of (row.Downtime d) = table.Downtime
table_of (row.Candidate c) = table.Candidate
table_of (row.Recovery r) = table.Recovery
table_of (row.Switch enabled) = table.Switch
table_of (row.Active node until) = table.Active

abbrev pub key_of : Row → Key
key_of (row.Instance i) = key.Server i.no
key_of (row.Downtime d) = key.Server d.no
key_of (row.Candidate c) = key.Server c.no
key_of (row.Recovery r) = key.Id r.id
key_of (row.Switch enabled) = key.Global
key_of (row.Active node until) = key.Active

abbrev pub table_number : Table → ℕ
table_number table.Instance = 1
table_number table.Downtime = 2
table_number table.Candidate = 3
table_number table.Recovery = 4
table_number table.Switch = 5
table_number table.Active = 6

-- keys in their order: servers by number, then ids, then the switch's and the claim's
abbrev pub key_number : Key → ℕ
key_number (key.Server n) = n.0
key_number (key.Id id) = 2 ^ 32 + id
key_number key.Global = 2 ^ 32 + 2 ^ 64
key_number key.Active = 2 ^ 32 + 2 ^ 64 + 1

-- tables and keys in their order, by table, then key
abbrev pub sort_key : Table → Key → ℕ
sort_key t k = table_number t * 2 ^ 65 + key_number k

abbrev pub sort_key_of : Row → ℕ
sort_key_of r = sort_key (table_of r) (key_of r)

-- each row is before those that follow it
pub record IsRising (rows : List Row) : Type 0 where
  pub apart : AllPairs (λ a b. sort_key_of a < sort_key_of b) rows

abbrev pub row_in : List Row → ℕ → Option Row
row_in rows p = find (λ r. sort_key_of r == p) rows

-- the row of this table and key
abbrev pub row_at : List Row → Table → Key → Option Row
row_at rows t k = row_in rows (sort_key t k)

abbrev pub rows_before : List Row → ℕ → List Row
rows_before rows p = filter (λ r. nat_lt (sort_key_of r) p) rows

abbrev pub rows_behind : List Row → ℕ → List Row
rows_behind rows p = filter (λ r. nat_lt p (sort_key_of r)) rows

-- with this row in place of one with its table and key
unfoldable pub put : List Row → Row → List Row
put rows r = rows_before rows (sort_key_of r) ++ r ∷ rows_behind rows (sort_key_of r)

-- without a row of this table and key
unfoldable pub remove : List Row → Table → Key → List Row
remove rows t k = rows_before rows (sort_key t k) ++ rows_behind rows (sort_key t k)

abbrev pub changed_by : List Row → Change → List Row
changed_by rows (change.Put r) = put rows r
changed_by rows (change.Remove t k) = remove rows t k

-- after one change after another
abbrev pub changed : List Row → List Change → List Row
changed rows changes = fold changed_by rows changes

-- the map of any list of rows: of two with one table and key the last counts
abbrev pub map_of : List Row → List Row
map_of rows = fold put [] rows

-- the row at a sort key after a change, by the one that was there
abbrev pub row_after : ℕ → Option Row → Change → Option Row
row_after p kept (change.Put r) = if sort_key_of r == p then Some r else kept
row_after p kept (change.Remove t k) = if sort_key t k == p then None else kept

-- the last row of a list at a sort key
abbrev pub last_at : ℕ → List Row → Option Row
last_at p rows = fold (λ kept r. if sort_key_of r == p then Some r else kept) None rows
