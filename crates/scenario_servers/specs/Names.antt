-- The servers' names and UUIDs, as they are looked up: of every listed server what reads, wherever else the walk may
-- stop.
use Rattle.std.specs.Prelude.{ℕ, ◌+◌, ◌==◌, ◌∷◌, List, [], take, Bool, false, nat_lt, if◌then◌else◌, codes, Option, Some, None, option_and_then, Result, Ok, Err}
use Rattle.scenario_servers.specs.Prelude.{Data, DuplicateName, DuplicateUuid, Fault, HostPort, Items, NameFault, ServerNo, UnknownName, as_str}
use Rattle.scenario_servers.specs.Prelude.{fails, get, item, list_any, name_at, name_in, name_or_fails, no_items, same_name, under, uuid_in}
use Rattle.server_words.specs.OrchBase.Gives.{◌>>=◌}

abbrev pub read_name : Result HostPort NameFault → Option HostPort
read_name (Ok name) = Some name
read_name (Err e) = None

-- the text that a server is listed with
abbrev pub listed_text : Data → Option (List ℕ)
listed_text d = option_and_then as_str (get (codes "name") d)

-- the name that a text is, if it reads
abbrev pub name_in_text : Option (List ℕ) → Option HostPort
name_in_text text = option_and_then (λ t. read_name (name_at t)) text

-- the name that a server is listed with, if it reads
abbrev pub listed_name : Data → Option HostPort
listed_name d = name_in_text (listed_text d)

abbrev pub listed_names : Items → List (Option HostPort)
listed_names no_items = []
listed_names (item d ds) = listed_name d ∷ listed_names ds

abbrev pub is_named : HostPort → Option HostPort → Bool
is_named name None = false
is_named name (Some n) = same_name n name

-- the first server of this name, counted from n
abbrev pub first_named : HostPort → ℕ → List (Option HostPort) → Option ℕ
first_named name n [] = None
first_named name n (x ∷ xs) = if is_named name x then Some n else first_named name (n + 1) xs

abbrev pub number_or_fails : Option ℕ → Result ServerNo Fault
number_or_fails None = fails UnknownName
number_or_fails (Some n) = Ok (record { 0 = n })

-- the server that a text names
unfoldable pub server_named : List (Option HostPort) → Data → Result ServerNo Fault
server_named names d = do
  name ← name_in d
  number_or_fails (first_named name 0 names)

-- an earlier server than n
abbrev pub is_earlier : ℕ → Option ℕ → Bool
is_earlier n None = false
is_earlier n (Some m) = nat_lt m n

-- the name of server n, which no earlier one has
abbrev pub new_name : List (Option HostPort) → ℕ → HostPort → Result HostPort Fault
new_name names n name = if is_earlier n (first_named name 0 names) then fails DuplicateName else Ok name

unfoldable pub own_name : List (Option HostPort) → ℕ → Data → Result HostPort Fault
own_name names n d = do
  name ← name_in d
  new_name names n name

-- the name that a text is
abbrev pub own_named : List (Option HostPort) → ℕ → List ℕ → Result HostPort Fault
own_named names n text = name_or_fails (name_at text) >>= new_name names n

-- ---- UUIDs

-- the UUID of server n: 00000000-0000-0000-0000- and n plus 1 in 12 hexadecimal digits, if none is given
abbrev pub uuid_at : ℕ → Option Data → Result ℕ Fault
uuid_at n None = Ok (n + 1)
uuid_at n (Some d) = uuid_in d

abbrev pub read_uuid : Result ℕ Fault → Option ℕ
read_uuid (Ok uuid) = Some uuid
read_uuid (Err f) = None

-- the UUIDs of the servers from number n on, each if it reads
abbrev pub listed_uuids : ℕ → Items → List (Option ℕ)
listed_uuids n no_items = []
listed_uuids n (item d ds) = read_uuid (uuid_at n (get (codes "uuid") d)) ∷ listed_uuids (n + 1) ds

abbrev pub has_uuid : ℕ → Option ℕ → Bool
has_uuid uuid None = false
has_uuid uuid (Some u) = u == uuid

-- a UUID that none of the servers before n has
abbrev pub new_uuid : List (Option ℕ) → ℕ → ℕ → Result ℕ Fault
new_uuid uuids n uuid = if list_any (has_uuid uuid) (take n uuids) then fails DuplicateUuid else Ok uuid

abbrev pub unplaced_uuid : List (Option ℕ) → ℕ → Data → Result ℕ Fault
unplaced_uuid uuids n d = do
  uuid ← uuid_at n (get (codes "uuid") d)
  new_uuid uuids n uuid

-- the UUID of server n, which no earlier one has; a fault is at its key, given or not
unfoldable pub own_uuid : List (Option ℕ) → ℕ → Data → Result ℕ Fault
own_uuid uuids n d = under (codes "uuid") (unplaced_uuid uuids n d)
