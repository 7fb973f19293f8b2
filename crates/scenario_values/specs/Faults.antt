-- Faults and their places. A reading answers a value, or a fault with its place below what is read.
use Rattle.std.specs.Prelude.{◌≡◌, IfSome, option_map, ℕ, ◌+◌, ◌==◌, ◌++◌, ◌∷◌, List, [], Bool, true, false, nat_eq, if◌then◌else◌, codes, decimal, Option, Some, None, Result, Ok, Err}
use Rattle.std.specs.Cmp.Lexicographic.{pointwise}
use Rattle.std.specs.List.{list_any}
use Rattle.serde_json.specs.Data.{Data, Items, no_items, item, Members, no_members, member}
use Rattle.serde_json.specs.Find.{get}
use Rattle.scenario_values.specs.declared.fault.FaultCode.{FaultCode}
use Rattle.scenario_values.specs.declared.fault.FaultCode.TheVariants.{Missing, UnknownKey}
use Rattle.scenario_values.specs.declared.fault.Fault.{Fault}
use Rattle.scenario_values.specs.declared.fault.ReadFault.{ReadFault}
use Rattle.scenario_values.specs.declared.fault.ReadFault.TheVariants as read_fault
use Rattle.binlog_coords.specs.OrchBase.Gives.{◌>>=◌}

-- the fault that the bytes have, and nothing if memory runs out
abbrev pub fault_of : ReadFault → Option Fault
fault_of read_fault.Memory = None
fault_of (read_fault.Fault f) = Some f

-- a fault of the value itself
abbrev pub fails : {A : Type 0} → FaultCode → Result A Fault
fails code = Err (record { code = code; path = [] })

abbrev pub or_fails : {A : Type 0} → FaultCode → Option A → Result A Fault
or_fails code None = fails code
or_fails code (Some x) = Ok x

abbrev pub holds : FaultCode → Bool → Result (Unit {0}) Fault
holds code true = Ok tt
holds code false = fails code

-- ---- places

-- `~0` means `~`, and `~1` means `/`
unfoldable pub escaped_byte : ℕ → List ℕ
escaped_byte b = if b == 126 then codes "~0" else (if b == 47 then codes "~1" else b ∷ [])

abbrev pub escaped : List ℕ → List ℕ
escaped [] = []
escaped (b ∷ bs) = escaped_byte b ++ escaped bs

-- the fault of the value at a key, if that is a fault of the value
abbrev pub placed : List ℕ → Fault → Fault
placed key f = record { code = f.code; path = codes "/" ++ escaped key ++ f.path }

-- what was read of the value at a key: a fault in it has its place below that key
abbrev pub under : {A : Type 0} → List ℕ → Result A Fault → Result A Fault
under key (Ok x) = Ok x
under key (Err f) = Err (placed key f)

-- what was read of the item of a number
abbrev pub under_item : {A : Type 0} → ℕ → Result A Fault → Result A Fault
under_item n read = under (decimal n) read

-- the same answer; a fault has its place, or memory ran out
abbrev pub IsUnder : {A : Type 0} → List ℕ → Result A ReadFault → Result A ReadFault → Type 0
IsUnder key (Ok x) (Ok y) = y ≡ x
IsUnder key (Err e) (Err g) = IfSome (fault_of g) (λ f. option_map (placed key) (fault_of e) ≡ Some f)
IsUnder key _ _ = ⊥

-- ---- keys

-- the value at a key that must be there
abbrev pub needed_in : {A : Type 0} → List ℕ → (Data → Result A Fault) → Option Data → Result A Fault
needed_in key read None = fails Missing
needed_in key read (Some d) = under key (read d)

abbrev pub needed : {A : Type 0} → List ℕ → (Data → Result A Fault) → Data → Result A Fault
needed key read d = needed_in key read (get key d)

-- the value at a key that may be absent
abbrev pub optional_in : {A : Type 0} → List ℕ → (Data → Result A Fault) → A → Option Data → Result A Fault
optional_in key read default None = Ok default
optional_in key read default (Some d) = under key (read d)

abbrev pub optional : {A : Type 0} → List ℕ → (Data → Result A Fault) → A → Data → Result A Fault
optional key read default d = optional_in key read default (get key d)

-- a value that is there, as such
abbrev pub some_of : {A : Type 0} → Result A Fault → Result (Option A) Fault
some_of (Ok x) = Ok (Some x)
some_of (Err f) = Err f

-- the value at a key, if it is there
abbrev pub maybe_in : {A : Type 0} → List ℕ → (Data → Result A Fault) → Option Data → Result (Option A) Fault
maybe_in key read None = Ok None
maybe_in key read (Some d) = some_of (under key (read d))

abbrev pub maybe : {A : Type 0} → List ℕ → (Data → Result A Fault) → Data → Result (Option A) Fault
maybe key read d = maybe_in key read (get key d)

abbrev pub is_key : List (List ℕ) → List ℕ → Bool
is_key known key = list_any (λ k. pointwise nat_eq k key) known

-- No key but these. The members of an object are in the order of their keys' bytes.
abbrev pub only_keys : List (List ℕ) → Members → Result (Unit {0}) Fault
only_keys known no_members = Ok tt
only_keys known (member k d ms) = if is_key known k then only_keys known ms else under k (fails UnknownKey)

-- none of these keys
abbrev pub has_none : List (List ℕ) → Members → Bool
has_none keys no_members = true
has_none keys (member k d ms) = if is_key keys k then false else has_none keys ms

-- only an object has keys
abbrev pub has_none_at : List (List ℕ) → Option Members → Bool
has_none_at keys None = true
has_none_at keys (Some ms) = has_none keys ms

-- ---- items and members

-- each item in order, by its number, counted from n
abbrev pub each_from : {A : Type 0} → (ℕ → Data → Result A Fault) → ℕ → Items → Result (List A) Fault
each_from read n no_items = Ok []
each_from read n (item d ds) = do
  x ← under_item n (read n d)
  xs ← each_from read (n + 1) ds
  Ok (x ∷ xs)

abbrev pub each : {A : Type 0} → (Data → Result A Fault) → Items → Result (List A) Fault
each read ds = each_from (λ n d. read d) 0 ds

-- each member in order, by its key
abbrev pub each_member : {A : Type 0} → (List ℕ → Data → Result A Fault) → Members → Result (List A) Fault
each_member read no_members = Ok []
each_member read (member key d ms) = do
  x ← under key (read key d)
  xs ← each_member read ms
  Ok (x ∷ xs)

abbrev pub item_count : Items → ℕ
item_count no_items = 0
item_count (item d ds) = item_count ds + 1
