-- The servers that the text gives, with the defaults that need other servers.
use Rattle.std.specs.Prelude.{◌≡◌, ℕ, ◌+◌, ◌<◌, ◌≤◌, ◌∷◌, List, [], Bool, true, not, length, map, Option, Some, None, unwrap_or, slice_get}
use Rattle.scenario_servers.specs.Prelude.{IsServer, Rule, ServerInit, Settings, number_of, printed, reached_from, same_name}
use Rattle.scenario_servers.specs.declared.given.Given.{Given}

-- ---- clusters

abbrev pub source_in : Option Given → Option ℕ
source_in None = None
source_in (Some g) = number_of g.source

-- the server at the top of the sources above one
abbrev pub root_in : List Given → ℕ → ℕ
root_in gs n = reached_from (λ m. source_in (slice_get gs m)) (length gs) n

abbrev pub own_label : Given → List ℕ
own_label g = unwrap_or g.identity.cluster (printed g.identity.name)

abbrev pub label_at : Option Given → List ℕ
label_at None = []
label_at (Some g) = own_label g

-- the label that is given, or that of the root: the one given there, or its printed name
abbrev pub label_of : List Given → ℕ → Given → List ℕ
label_of gs n g = unwrap_or g.identity.cluster (label_at (slice_get gs (root_in gs n)))

-- ---- servers

abbrev pub settings_of : List ℕ → Given → Settings
settings_of label g = record {
  name = g.identity.name;
  uuid = g.identity.uuid;
  server_id = g.identity.server_id;
  version = g.identity.version;
  cluster = label;
  logs = g.setup.logs;
  limit = g.setup.limit;
  dc = g.dc;
}

-- A server of the cluster of this label. The threads of a server that isn't detached are on, if the text has nothing
-- about them.
abbrev pub init_under : List ℕ → Given → ServerInit
init_under label g = record {
  settings = settings_of label g;
  read_only = g.setup.read_only;
  up = g.setup.up;
  desk = g.setup.desk;
  feed = g.setup.feed;
  history = g.history;
  source = g.source;
  executed = g.replication.executed;
  at = g.replication.at;
  read = g.replication.read;
  io = unwrap_or g.replication.io (not g.replication.detached);
  sql = unwrap_or g.replication.sql (not g.replication.detached);
  auto = g.replication.auto;
  detached = g.replication.detached;
  until = g.replication.until;
  flushes = g.flushes;
  purged = g.purged;
}

-- server n
abbrev pub init_of : List Given → ℕ → Given → ServerInit
init_of gs n g = init_under (label_of gs n g) g

abbrev pub inits_from : List Given → ℕ → List Given → List ServerInit
inits_from gs n [] = []
inits_from gs n (x ∷ xs) = init_of gs n x ∷ inits_from gs (n + 1) xs

abbrev pub inits_of : List Given → List ServerInit
inits_of gs = inits_from gs 0 gs

-- 1 to 1,000 servers of different names and UUIDs, each with its numbers in their ranges, and a source that is one of
-- them
pub record IsGiven (gtid : Bool) (servers : List ServerInit) : Type 0 where
  pub some : 0 < length servers
  pub few : length servers ≤ 1000
  pub each : (n : ℕ) (i : ServerInit) → slice_get servers n ≡ Some i → IsServer (length servers) gtid i
  pub names : (m n : ℕ) (i j : ServerInit) → slice_get servers m ≡ Some i → slice_get servers n ≡ Some j → same_name i.settings.name j.settings.name ≡ true → m ≡ n
  pub uuids : (m n : ℕ) (i j : ServerInit) → slice_get servers m ≡ Some i → slice_get servers n ≡ Some j → i.settings.uuid ≡ j.settings.uuid → m ≡ n

-- for each server whether the book knows it at the opening
abbrev pub known_of : List Given → List Bool
known_of gs = map (λ g. g.known) gs

-- for each server the rule with which it is registered at the opening, if any
abbrev pub rules_of : List Given → List (Option Rule)
rules_of gs = map (λ g. g.rule) gs
