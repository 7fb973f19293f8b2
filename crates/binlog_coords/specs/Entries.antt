-- The transactions of a log as a list, which its index is searched by.
use Rattle.std.specs.Prelude.{◌≡◌, ◌<◌, Bool, true, false, List, [], ◌∷◌, Option, Some, None}
use Rattle.binlog_coords.specs.declared.Coord.{Coord}
use Rattle.binlog_coords.specs.declared.Entry.{Entry}
use Rattle.binlog_coords.specs.Log.{is_at_or_before, same_coord, start_coord, end_coord}

-- the transactions lie one after another from one coordinate to another, and none is empty
abbrev pub LieBetween : Coord → Coord → List Entry → Type 0
LieBetween from to [] = is_at_or_before from to ≡ true
LieBetween from to (e ∷ es) = (is_at_or_before from (start_coord e) ≡ true) × (e.start < e.end) × LieBetween (end_coord e) to es

-- there is a transaction, and it begins there
abbrev pub starts_at : Coord → Option Entry → Bool
starts_at c None = false
starts_at c (Some e) = same_coord (start_coord e) c
