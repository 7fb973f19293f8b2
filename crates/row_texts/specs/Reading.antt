-- What a text is read as: an object of a list of fields, `f`, and a version, `v`.
use Rattle.std.specs.Prelude.{ℕ, ◌&&◌, List, Option, None, Some, Result, codes, nat_eq, option_and_then, if◌then◌else◌}
use Rattle.row_texts.specs.Prelude.{Data, HostPort, Members, Row, Table, as_array, as_object, bytes_eq, is_utf8, member, no_members, read}
use Rattle.row_texts.specs.Prelude.table
use Rattle.row_texts.specs.declared.fault.RowFault.{RowFault}
use Rattle.row_texts.specs.declared.fault.RowFault.TheVariants as fault
use Rattle.row_texts.specs.Fields.{or_else, whole_form}
use Rattle.row_texts.specs.Tables.{active_at, candidate_at, downtime_at, instance_at, is_version, recovery_at, switch_at}
use Rattle.kept_rows.specs.OrchBase.Gives.{◌>>=◌}

-- the table of a number
abbrev pub table_at : ℕ → Option Table
table_at n =
    if nat_eq n 1 then Some table.Instance
    else (if nat_eq n 2 then Some table.Downtime
    else (if nat_eq n 3 then Some table.Candidate
    else (if nat_eq n 4 then Some table.Recovery
    else (if nat_eq n 5 then Some table.Switch
    else (if nat_eq n 6 then Some table.Active else None)))))

-- the two members of an object that has two, in the order of their keys
abbrev pub pair_of : Members → Option ((List ℕ × Data) × (List ℕ × Data))
pair_of no_members = None
pair_of (member k d no_members) = None
pair_of (member k d (member l e no_members)) = Some ((k, d), (l, e))
pair_of (member k d (member l e (member m g ms))) = None

abbrev pub named : (List ℕ × Data) × (List ℕ × Data) → Option (Data × Data)
named p = if bytes_eq p.0.0 (codes "f") && bytes_eq p.1.0 (codes "v") then Some (p.0.1, p.1.1) else None

-- the values of an object with just `f` and `v`
unfoldable pub two_of : Members → Option (Data × Data)
two_of ms = option_and_then named (pair_of ms)

abbrev pub with_list : Data × Data → Option (Data × Data)
with_list p = option_and_then (λ ds. Some p) (as_array p.0)

-- the list of fields and the version of a text's value
unfoldable pub shape_of : Data → Option (Data × Data)
shape_of d = option_and_then with_list (option_and_then two_of (as_object d))

unfoldable pub version_of : Table → Data → Option ℕ
version_of t d = option_and_then (λ v. if is_version t v then Some v else None) (whole_form d)

-- the row of a list of fields, by its table, version and key
abbrev pub row_at : Table → ℕ → List HostPort → List ℕ → Data → Result Row RowFault
row_at table.Instance v names key list = instance_at v names key list
row_at table.Downtime v names key list = downtime_at names key list
row_at table.Candidate v names key list = candidate_at names key list
row_at table.Recovery v names key list = recovery_at v names key list
row_at table.Switch v names key list = switch_at key list
row_at table.Active v names key list = active_at key list

unfoldable pub row_in : Table → List HostPort → List ℕ → Data → Result Row RowFault
row_in t names key d = do
  parts ← or_else fault.NotJson (shape_of d)
  version ← or_else fault.BadVersion (version_of t parts.1)
  row_at t version names key parts.0

-- the value of a text that is UTF-8 and JSON
abbrev pub value_of : List ℕ → Option Data
value_of text = if is_utf8 text then read text else None

-- the row that a text is, or the first fault: no JSON of this shape, the version, the first field, the key, a server
unfoldable pub read_row : Table → List HostPort → List ℕ → List ℕ → Result Row RowFault
read_row t names key text = do
  d ← or_else fault.NotJson (value_of text)
  row_in t names key d
