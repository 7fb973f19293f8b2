-- Coordinates as text: the name of a binary log's file and a position in it (MySQL 8.0 Reference Manual, "The Binary
-- Log").
use Rattle.std.specs.Prelude.{ℕ, List, ◌++◌, length, drop, codes, decimal}
use Rattle.binlog_coords.specs.declared.Coord.{Coord}

-- a number in at least six digits
abbrev pub six_digits : ℕ → List ℕ
six_digits n = drop (length (decimal n)) (codes "000000") ++ decimal n

-- `mysql-bin.`, the file in at least six digits, `:` and the position
abbrev pub coord_text : Coord → List ℕ
coord_text c = codes "mysql-bin." ++ six_digits c.file ++ codes ":" ++ decimal c.pos
