-- Keys in their types' ranges.
use Rattle.std.specs.Prelude.{◌<◌, ◌^◌, ⊤}
use Rattle.kept_rows.specs.declared.row.Key.{Key}
use Rattle.kept_rows.specs.declared.row.Key.TheVariants as key
use Rattle.kept_rows.specs.declared.row.Change.{Change}
use Rattle.kept_rows.specs.declared.row.Change.TheVariants as change

abbrev pub IsKeyInRange : Key → Type 0
IsKeyInRange (key.Server n) = n.0 < 2 ^ 32
IsKeyInRange (key.Id id) = id < 2 ^ 64
IsKeyInRange key.Global = ⊤
IsKeyInRange key.Active = ⊤

abbrev pub IsInRange : Change → Type 0
IsInRange (change.Put r) = ⊤
IsInRange (change.Remove t k) = IsKeyInRange k
