-- The forms of fields, of keys and of the servers that they name.
use Rattle.std.specs.Prelude.{ℕ, ◌==◌, List, length, Option, None, Some, Result, Ok, Err, ⊤, is_some, nat_le, option_map, option_and_then, position, if◌then◌else◌}
use Rattle.row_texts.specs.Prelude.{Coord, Data, HostPort, Interval, Moment, ServerNo, as_null, as_number, as_str, as_u64, at, bytes_eq, same_name}
use Rattle.row_texts.specs.declared.fault.RowFault.{RowFault}
use Rattle.row_texts.specs.declared.fault.RowFault.TheVariants as fault
use Rattle.row_texts.specs.declared.word.Outcome.{Outcome}
use Rattle.row_texts.specs.Words.{coord_printed, id_printed, name_printed, named_among, outcome_printed, set_printed}

-- the fault that a text has, and nothing if memory runs out
abbrev pub fault_of : RowFault → Option RowFault
fault_of fault.NotJson = Some fault.NotJson
fault_of fault.BadVersion = Some fault.BadVersion
fault_of (fault.BadField n) = Some (fault.BadField n)
fault_of fault.BadKey = Some fault.BadKey
fault_of fault.UnknownServer = Some fault.UnknownServer
fault_of fault.Memory = None

abbrev pub or_else : {A : Type 0} → RowFault → Option A → Result A RowFault
or_else f (Some x) = Ok x
or_else f None = Err f

-- the field of a number, counted from 0, in this form
unfoldable pub field_at : {A : Type 0} → (Data → Option A) → ℕ → Data → Result A RowFault
field_at form n list = or_else (fault.BadField n) (option_and_then form (at n list))

abbrev pub none_or : {A : Type 0} → RowFault → Option A → Result ⊤ RowFault
none_or f None = Ok tt
none_or f (Some x) = Err f

-- no field is at this number
unfoldable pub end_at : ℕ → Data → Result ⊤ RowFault
end_at n list = none_or (fault.BadField n) (at n list)

-- ---- forms of fields

-- a whole number below 2^64
abbrev pub whole_form : Data → Option ℕ
whole_form d = option_and_then as_u64 (as_number d)

abbrev pub up_to : ℕ → ℕ → Option ℕ
up_to most n = if nat_le n most then Some n else None

-- a whole number below 2^32
abbrev pub small_form : Data → Option ℕ
small_form d = option_and_then (up_to 4294967295) (whole_form d)

abbrev pub moment_form : Data → Option Moment
moment_form d = option_map (λ n. record { 0 = n }) (whole_form d)

-- null, or of this form
abbrev pub or_null : {A : Type 0} → (Data → Option A) → Data → Option (Option A)
or_null form d = if is_some (as_null d) then Some None else option_map (λ x. Some x) (form d)

-- one of these, by its word
abbrev pub word_form : {W : Type 0} → (W → List ℕ) → List W → Data → Option W
word_form word all d = option_and_then (named_among word all) (as_str d)

abbrev pub name_form : Data → Option HostPort
name_form d = option_and_then name_printed (as_str d)

abbrev pub coord_form : Data → Option Coord
coord_form d = option_and_then coord_printed (as_str d)

abbrev pub set_form : Data → Option (List Interval)
set_form d = option_and_then set_printed (as_str d)

abbrev pub outcome_form : Data → Option Outcome
outcome_form d = option_and_then outcome_printed (as_str d)

abbrev pub none_of : List ℕ → Option ⊤
none_of s = if length s == 0 then Some tt else None

-- the empty text
abbrev pub empty_form : Data → Option ⊤
empty_form d = option_and_then none_of (as_str d)

-- ---- keys

abbrev pub key_name : List ℕ → Result HostPort RowFault
key_name key = or_else fault.BadKey (name_printed key)

abbrev pub key_id : List ℕ → Result ℕ RowFault
key_id key = or_else fault.BadKey (id_printed key)

abbrev pub key_word : List ℕ → List ℕ → Result ⊤ RowFault
key_word word key = or_else fault.BadKey (if bytes_eq key word then Some tt else None)

-- ---- servers

abbrev pub number_within : Option ℕ → Option ServerNo
number_within (Some n) = if nat_le n 4294967295 then Some (record { 0 = n }) else None
number_within None = None

-- the number of the server with this name
unfoldable pub server_of : List HostPort → HostPort → Result ServerNo RowFault
server_of names name = or_else fault.UnknownServer (number_within (position (λ n. same_name n name) names))
