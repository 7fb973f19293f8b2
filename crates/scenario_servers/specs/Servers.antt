-- What the text of a server has.
use Rattle.std.specs.Prelude.{ℕ, ◌+◌, ◌∷◌, ◌++◌, ◌&&◌, List, [], Bool, true, false, not, nat_le, is_some, if◌then◌else◌, codes, Option, None, Result, Ok}
use Rattle.scenario_servers.specs.Prelude.{AutoWithoutGtid, BadNumber, Data, Fault, HostPort, Items, Part, Version, bool_in, coord_in, each}
use Rattle.scenario_servers.specs.Prelude.{each_from, fails, get, holds, item, item_count, items_in, label_in, maybe, members_in, needed, no_items}
use Rattle.scenario_servers.specs.Prelude.{number_in, only_keys, optional, short_in, under_item, version_in, whole_in}
use Rattle.scenario_servers.specs.declared.given.Identity.{Identity}
use Rattle.scenario_servers.specs.declared.given.Setup.{Setup}
use Rattle.scenario_servers.specs.declared.given.Replication.{Replication}
use Rattle.scenario_servers.specs.declared.given.Given.{Given}
use Rattle.scenario_servers.specs.Rules.{rule_in}
use Rattle.scenario_servers.specs.Names.{listed_names, server_named, own_name, listed_uuids, own_uuid}
use Rattle.server_words.specs.OrchBase.Gives.{◌>>=◌}

-- ---- histories and flush points

abbrev pub three_of : Items → Result (Data × Data × Data) Fault
three_of (item a (item b (item c no_items))) = Ok (a, b, c)
three_of _ = fails BadNumber

-- [origin, size, count]
unfoldable pub part_in : List (Option HostPort) → Data → Result Part Fault
part_in names d = do
  items ← items_in d
  parts ← three_of items
  origin ← under_item 0 (server_named names parts.0)
  size ← under_item 1 (number_in 1 1000000 parts.1)
  count ← under_item 2 (number_in 1 4000000 parts.2)
  Ok (record { origin = origin; size = size; count = count })

unfoldable pub history_in : List (Option HostPort) → Data → Result (List Part) Fault
history_in names d = do
  items ← items_in d
  each (part_in names) items

-- at most 1,000,000 counts
unfoldable pub flushes_in : Data → Result (List ℕ) Fault
flushes_in d = do
  items ← items_in d
  few ← holds BadNumber (nat_le (item_count items) 1000000)
  each whole_in items

-- ---- a server

abbrev pub own_keys : List (List ℕ)
own_keys = codes "name" ∷ codes "uuid" ∷ codes "server_id" ∷ codes "version" ∷ codes "cluster" ∷ codes "logs" ∷ codes "read_only" ∷ codes "limit"
    ∷ codes "up" ∷ codes "desk" ∷ codes "feed" ∷ codes "known" ∷ codes "rule" ∷ codes "history" ∷ codes "source" ∷ codes "flushes"
    ∷ codes "purged" ∷ codes "dc" ∷ []

-- the keys that only a server with a source has
abbrev pub replica_keys : List (List ℕ)
replica_keys = codes "executed" ∷ codes "at" ∷ codes "read" ∷ codes "io" ∷ codes "sql" ∷ codes "auto" ∷ codes "detached" ∷ codes "until" ∷ []

abbrev pub has_source : Data → Bool
has_source d = is_some (get (codes "source") d)

abbrev pub server_keys : Data → List (List ℕ)
server_keys d = if has_source d then own_keys ++ replica_keys else own_keys

abbrev pub default_version : Version
default_version = record { major = 8; minor = 0; patch = 36 }

-- who server n is
unfoldable pub identity_in : List (Option HostPort) → List (Option ℕ) → ℕ → Data → Result Identity Fault
identity_in names uuids n d = do
  name ← needed (codes "name") (own_name names n) d
  uuid ← own_uuid uuids n d
  server_id ← optional (codes "server_id") (number_in 1 4294967295) (n + 1) d
  version ← optional (codes "version") version_in default_version d
  cluster ← maybe (codes "cluster") label_in d
  Ok (record { name = name; uuid = uuid; server_id = server_id; version = version; cluster = cluster })

-- who server n is, if the text has nothing about it but its name and UUID
unfoldable pub plain_identity : List (Option HostPort) → List (Option ℕ) → ℕ → Data → Result Identity Fault
plain_identity names uuids n d = do
  name ← needed (codes "name") (own_name names n) d
  uuid ← own_uuid uuids n d
  Ok (record { name = name; uuid = uuid; server_id = n + 1; version = default_version; cluster = None })

-- how it is set up, and what reaches it, if the text has nothing about it
abbrev pub plain_setup : Data → Setup
plain_setup d = record { logs = true; read_only = has_source d; limit = 1073741824; up = true; desk = true; feed = true }

-- how it is set up, and what reaches it
unfoldable pub setup_in : Data → Result Setup Fault
setup_in d = do
  logs ← optional (codes "logs") bool_in true d
  read_only ← optional (codes "read_only") bool_in (has_source d) d
  limit ← optional (codes "limit") (number_in 100 1073741824) 1073741824 d
  up ← optional (codes "up") bool_in true d
  desk ← optional (codes "desk") bool_in true d
  feed ← optional (codes "feed") bool_in true d
  Ok (record { logs = logs; read_only = read_only; limit = limit; up = up; desk = desk; feed = feed })

-- whether it finds its place by GTIDs, which a scenario without them refuses
unfoldable pub auto_in : Bool → Data → Result Bool Fault
auto_in gtid d = do
  on ← bool_in d
  if on && not gtid then fails AutoWithoutGtid else Ok on

-- how it replicates
unfoldable pub replication_in : Bool → Data → Result Replication Fault
replication_in gtid d = do
  executed ← optional (codes "executed") whole_in 0 d
  at ← maybe (codes "at") coord_in d
  read ← maybe (codes "read") coord_in d
  io ← maybe (codes "io") bool_in d
  sql ← maybe (codes "sql") bool_in d
  auto ← optional (codes "auto") (auto_in gtid) false d
  detached ← optional (codes "detached") bool_in false d
  until ← maybe (codes "until") coord_in d
  Ok (record { executed = executed; at = at; read = read; io = io; sql = sql; auto = auto; detached = detached; until = until })

-- each key in the table's order
unfoldable pub server_from : Bool → List (Option HostPort) → List (Option ℕ) → ℕ → Data → Result Given Fault
server_from gtid names uuids n d = do
  identity ← identity_in names uuids n d
  setup ← setup_in d
  known ← optional (codes "known") bool_in true d
  rule ← maybe (codes "rule") rule_in d
  history ← maybe (codes "history") (history_in names) d
  source ← maybe (codes "source") (server_named names) d
  replication ← replication_in gtid d
  flushes ← optional (codes "flushes") flushes_in [] d
  purged ← optional (codes "purged") (number_in 1 4294967295) 1 d
  dc ← optional (codes "dc") short_in [] d
  Ok (record {
    identity = identity;
    setup = setup;
    known = known;
    rule = rule;
    history = history;
    source = source;
    replication = replication;
    flushes = flushes;
    purged = purged;
    dc = dc;
  })

-- the keys of most servers
abbrev pub plain_keys : List (List ℕ)
plain_keys = codes "name" ∷ codes "source" ∷ codes "history" ∷ codes "uuid" ∷ []

-- how it replicates, if the text has nothing about it
abbrev pub plain_replication : Replication
plain_replication = record { executed = 0; at = None; read = None; io = None; sql = None; auto = false; detached = false; until = None }

-- a server that has no keys but these: all else is as it is by default
unfoldable pub plain_from : List (Option HostPort) → List (Option ℕ) → ℕ → Data → Result Given Fault
plain_from names uuids n d = do
  identity ← plain_identity names uuids n d
  history ← maybe (codes "history") (history_in names) d
  source ← maybe (codes "source") (server_named names) d
  Ok (record {
    identity = identity;
    setup = plain_setup d;
    known = true;
    rule = None;
    history = history;
    source = source;
    replication = plain_replication;
    flushes = [];
    purged = 1;
    dc = [];
  })

-- Server n. Its unknown keys come first.
unfoldable pub server_in : Bool → List (Option HostPort) → List (Option ℕ) → ℕ → Data → Result Given Fault
server_in gtid names uuids n d = do
  ms ← members_in d
  keys ← only_keys (server_keys d) ms
  server_from gtid names uuids n d

-- ---- the servers

-- a list of 1 to 1,000 servers
unfoldable pub listed_in : Data → Result Items Fault
listed_in d = do
  items ← items_in d
  some ← holds BadNumber (nat_le 1 (item_count items) && nat_le (item_count items) 1000)
  Ok items

-- each server in order, beside the names of all
unfoldable pub servers_in : Bool → Data → Result (List (Option HostPort) × List Given) Fault
servers_in gtid d = do
  items ← listed_in d
  servers ← each_from (server_in gtid (listed_names items) (listed_uuids 0 items)) 0 items
  Ok (listed_names items, servers)
