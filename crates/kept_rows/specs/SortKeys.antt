-- Sort keys as the code has them.
use Rattle.std.specs.Prelude.{ℕ, ◌<◌, ◌≤◌, List, length}
use Rattle.std.specs.List.{AllWithin}
use Rattle.kept_rows.specs.declared.row.Row.{Row}
use Rattle.kept_rows.specs.declared.row.SortKey.{SortKey}
use Rattle.kept_rows.specs.Rows.{sort_key, sort_key_of}

abbrev pub at : SortKey → ℕ
at p = sort_key p.table p.key

-- the rows before this index are before the sort key, and the others aren't
pub record IsFirstFrom (rows : List Row) (p i : ℕ) : Type 0 where
  pub within : i ≤ length rows
  pub below : AllWithin (λ r. sort_key_of r < p) rows 0 i
  pub above : AllWithin (λ r. p ≤ sort_key_of r) rows i (length rows)
