-- The grammar of a coordinate (MySQL 8.0 Reference Manual, "The Binary Log"): `mysql-bin.`, the file's number, `:` and
-- a position in it.
use Rattle.std.specs.Prelude.{ℕ, ◌^◌, ◌<◌, ◌≤◌, ◌==◌, ◌&&◌, ◌||◌, Bool, List, length, drop, codes, slice_index, nat_eq, nat_lt, nat_le, if◌then◌else◌, option_and_then, Option, Some, None, Result, Ok, Err}
use Rattle.std.specs.List.{list_all, list_any, starts_with, before_last, after_last}
use Rattle.std.specs.Char.{is_ascii_digit}
use Rattle.std.specs.Str.Parse.{digits_value}
use Rattle.binlog_coords.specs.declared.Coord.{Coord}
use Rattle.binlog_coords.specs.declared.text.CoordFault.{CoordFault}
use Rattle.binlog_coords.specs.declared.text.CoordFault.TheVariants.{NoColon, BadFile, BadPos}
use Rattle.orch_base.specs.Names.{is_colon}

-- the first byte is above `0`
abbrev pub begins_above_zero : List ℕ → Bool
begins_above_zero digits = nat_le 49 (slice_index digits 0)

-- decimal digits, of which the first is no zero
abbrev pub is_plain : List ℕ → Bool
is_plain digits = begins_above_zero digits && list_all is_ascii_digit digits

-- exactly six decimal digits, or more of which the first is no zero
abbrev pub is_extension : List ℕ → Bool
is_extension digits = list_all is_ascii_digit digits && (length digits == 6 || (nat_lt 6 (length digits) && begins_above_zero digits))

-- the number that the digits write, if it is at least `low` and below `limit`
abbrev pub value_within : ℕ → ℕ → List ℕ → Option ℕ
value_within low limit digits = if nat_le low (digits_value 10 digits) && nat_lt (digits_value 10 digits) limit then Some (digits_value 10 digits) else None

-- what is after `mysql-bin.`
abbrev pub extension_of : List ℕ → Option (List ℕ)
extension_of name = if starts_with nat_eq name (codes "mysql-bin.") then Some (drop 10 name) else None

-- a file's number, 1 to 2^32 - 1
abbrev pub number_at : List ℕ → Option ℕ
number_at digits = if is_extension digits then value_within 1 (2 ^ 32) digits else None

-- the number in a file's name
abbrev pub file_at : List ℕ → Option ℕ
file_at name = option_and_then number_at (extension_of name)

-- a position, 4 to 2^64 - 1
abbrev pub pos_at : List ℕ → Option ℕ
pos_at digits = if is_plain digits then value_within 4 (2 ^ 64) digits else None

-- the two numbers, or the fault of the first that is missing
abbrev pub coord_of : Option ℕ → Option ℕ → Result Coord CoordFault
coord_of None pos = Err BadFile
coord_of (Some file) None = Err BadPos
coord_of (Some file) (Some pos) = Ok (record { file = file; pos = pos })

-- the coordinate that a text writes: its last colon divides a file's name from a position
unfoldable pub coord_at : List ℕ → Result Coord CoordFault
coord_at text = if list_any is_colon text then coord_of (file_at (before_last is_colon text)) (pos_at (after_last is_colon text)) else Err NoColon

-- what has a text: files are counted from 1, positions begin at 4, and both fit their types
pub record HasText (c : Coord) : Type 0 where
  pub file_low : 1 ≤ c.file
  pub file_high : c.file < 2 ^ 32
  pub pos_low : 4 ≤ c.pos
  pub pos_high : c.pos < 2 ^ 64
