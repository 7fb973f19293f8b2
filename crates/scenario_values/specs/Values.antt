-- What single values are read as: of another kind than asked for is BadType, and then each has its own fault.
use Rattle.std.specs.Prelude.{ℕ, ◌&&◌, List, length, Bool, nat_le, nat_eq, if◌then◌else◌, Option, Some, None, Result, Ok, Err}
use Rattle.std.specs.List.{before_first, after_first}
use Rattle.std.specs.Int.{from_be_bytes, w128}
use Rattle.std.specs.Str.{all_ascii_digits}
use Rattle.std.specs.Str.Parse.{digits_value}
use Rattle.uuid.specs.Text.{parsed_hyphenated}
use Rattle.serde_json.specs.Data.{Data, Items, Members}
use Rattle.serde_json.specs.Find.{as_bool, as_u64, as_number, as_str, as_array, as_object}
use Rattle.binlog_coords.specs.declared.Coord.{Coord}
use Rattle.binlog_coords.specs.declared.text.CoordFault.{CoordFault}
use Rattle.binlog_coords.specs.Grammar.{coord_at}
use Rattle.binlog_coords.specs.OrchBase.declared.name.NameFault.{NameFault}
use Rattle.binlog_coords.specs.OrchBase.declared.server.Version.{Version}
use Rattle.binlog_coords.specs.OrchBase.Names.{HostPort, name_at}
use Rattle.scenario_values.specs.declared.fault.Fault.{Fault}
use Rattle.scenario_values.specs.declared.fault.FaultCode.TheVariants.{BadType, BadNumber, BadName, BadCoord, BadUuid, BadVersion}
use Rattle.scenario_values.specs.Faults.{fails, or_fails}
use Rattle.binlog_coords.specs.OrchBase.Gives.{◌>>=◌}

abbrev pub members_in : Data → Result Members Fault
members_in d = or_fails BadType (as_object d)

abbrev pub items_in : Data → Result Items Fault
items_in d = or_fails BadType (as_array d)

abbrev pub text_in : Data → Result (List ℕ) Fault
text_in d = or_fails BadType (as_str d)

abbrev pub bool_in : Data → Result Bool Fault
bool_in d = or_fails BadType (as_bool d)

-- a number that is whole and at most 2^64 - 1
unfoldable pub whole_in : Data → Result ℕ Fault
whole_in d = do
  n ← or_fails BadType (as_number d)
  or_fails BadNumber (as_u64 n)

abbrev pub within : ℕ → ℕ → ℕ → Result ℕ Fault
within low high n = if nat_le low n && nat_le n high then Ok n else fails BadNumber

-- a whole number from low to high
unfoldable pub number_in : ℕ → ℕ → Data → Result ℕ Fault
number_in low high d = do
  n ← whole_in d
  within low high n

abbrev pub name_or_fails : Result HostPort NameFault → Result HostPort Fault
name_or_fails (Ok name) = Ok name
name_or_fails (Err e) = fails BadName

unfoldable pub name_in : Data → Result HostPort Fault
name_in d = do
  text ← text_in d
  name_or_fails (name_at text)

abbrev pub coord_or_fails : Result Coord CoordFault → Result Coord Fault
coord_or_fails (Ok c) = Ok c
coord_or_fails (Err e) = fails BadCoord

unfoldable pub coord_in : Data → Result Coord Fault
coord_in d = do
  text ← text_in d
  coord_or_fails (coord_at text)

-- a text of low to high bytes
abbrev pub text_within : ℕ → ℕ → List ℕ → Result (List ℕ) Fault
text_within low high text = if nat_le low (length text) && nat_le (length text) high then Ok text else fails BadNumber

-- a text of at most 255 bytes
unfoldable pub short_in : Data → Result (List ℕ) Fault
short_in d = do
  text ← text_in d
  text_within 0 255 text

abbrev pub label_or_fails : List ℕ → Result (List ℕ) Fault
label_or_fails text = text_within 1 261 text

-- a cluster's label: 1 to 261 bytes
unfoldable pub label_in : Data → Result (List ℕ) Fault
label_in d = do
  text ← text_in d
  label_or_fails text

-- ---- UUIDs (RFC 9562, "UUID Format"): hexadecimal digits in groups of 8, 4, 4, 4 and 12 with `-` between them

abbrev pub uuid_or_fails : Option (List ℕ) → Result ℕ Fault
uuid_or_fails None = fails BadUuid
uuid_or_fails (Some bytes) = Ok (from_be_bytes w128 bytes)

unfoldable pub uuid_in : Data → Result ℕ Fault
uuid_in d = do
  text ← text_in d
  uuid_or_fails (parsed_hyphenated text)

-- ---- versions: A.B.C

abbrev pub is_dot : ℕ → Bool
is_dot b = nat_eq b 46

-- digits, at least one, of a value up to 65535
abbrev pub version_part : List ℕ → Option ℕ
version_part digits = if nat_le 1 (length digits) && all_ascii_digits digits && nat_le (digits_value 10 digits) 65535 then Some (digits_value 10 digits) else None

abbrev pub version_of : Option ℕ → Option ℕ → Option ℕ → Result Version Fault
version_of (Some a) (Some b) (Some c) = Ok (record { major = a; minor = b; patch = c })
version_of _ _ _ = fails BadVersion

-- after the first dot; nothing is after a dot that isn't there
abbrev pub behind_dot : List ℕ → List ℕ
behind_dot text = after_first is_dot text

abbrev pub version_at : List ℕ → Result Version Fault
version_at text = version_of (version_part (before_first is_dot text)) (version_part (before_first is_dot (behind_dot text))) (version_part (behind_dot (behind_dot text)))

unfoldable pub version_in : Data → Result Version Fault
version_in d = do
  text ← text_in d
  version_at text
