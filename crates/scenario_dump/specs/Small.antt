-- Small worlds, of which the whole text is known.
use Rattle.std.specs.Prelude.{ℕ, true, false, List, [], ◌∷◌, codes, Some, None}
use Rattle.scenario_dump.specs.Prelude.{Detached, FilterList, Hooks, Log, Scenario, Server, Settings, Txn, Without, World, file_start, flush}
use Rattle.scenario_dump.specs.Prelude.{no_hooks, opened, opening, push}

abbrev settings_by : List ℕ → ℕ → ℕ → Settings
settings_by host id limit = record {
  name = record { host = host; port = 3306 };
  uuid = id;
  server_id = id;
  version = record { major = 8; minor = 0; patch = 36 };
  cluster = codes "m:3306";
  logs = true;
  limit = limit;
  dc = [];
}

-- a server that takes writes, with this history and log
abbrev writer : ℕ → List Txn → Log → Server
writer limit txns log = record {
  settings = settings_by (codes "m") 1 limit;
  history = record { txns = txns; room = 10 };
  log = record { log = log; txns = txns; room = 10; flushes = 10 };
  first = 1;
  source = Without;
  exec = file_start 1;
  read = file_start 1;
  auto = false;
  receiver = false;
  applier = false;
  until = None;
  read_only = false;
  up = true;
  desk = true;
  feed = true;
}

abbrev pub one_server : World
one_server = record { servers = writer 1073741824 [] (opened 1073741824) ∷ []; gtid = false; errant = 0 }

abbrev own : ℕ → ℕ → Txn
own seq size = record { origin = record { 0 = 0 }; seq = seq; size = size }

-- a replica that is detached from it, has executed two of its three transactions, and has no log
abbrev reader : Server
reader = record {
  settings = record (settings_by (codes "r") 2 100) { logs = false; dc = codes "east" };
  history = record { txns = own 1 100 ∷ own 2 100 ∷ []; room = 10 };
  log = record { log = opened 100; txns = []; room = 10; flushes = 0 };
  first = 1;
  source = Detached (record { 0 = 0 });
  exec = record { file = 2; pos = 104 };
  read = record { file = 2; pos = 304 };
  auto = false;
  receiver = false;
  applier = false;
  until = Some (file_start 3);
  read_only = true;
  up = true;
  desk = false;
  feed = true;
}

-- the log was flushed after one transaction and after three, and went on in another file by itself after three
abbrev pub two_servers : World
two_servers = record {
  servers = writer 250 (own 1 100 ∷ own 2 100 ∷ own 3 200 ∷ []) (flush (push (push (flush (push (opened 250) 100)) 100) 200)) ∷ reader ∷ [];
  gtid = false;
  errant = 0;
}

abbrev any : FilterList
any = record { texts = codes "*" ∷ []; passes = [] }

-- a scenario that has nothing of clusters, and one that does
abbrev pub plain_scenario : Scenario
plain_scenario = record {
  opening = opening [] false;
  moment = record { 0 = 0 };
  pseudo = 0;
  nodes = 1;
  block = 3600;
  blocks = [];
  aliases = [];
  filters = record { master = any; intermediate = any };
  hooks = no_hooks;
  known = [];
  rules = [];
  turns = [];
}

abbrev one_hook : Hooks
one_hook = record no_hooks { post_failover = record { text = codes "page {failedHost}"; exit = 0 } ∷ [] }

abbrev pub named_scenario : Scenario
named_scenario = record plain_scenario { pseudo = 5; blocks = record { cluster = codes "m:3306"; seconds = 60 } ∷ []; aliases = record { cluster = codes "m:3306"; alias = codes "a \"b\"" } ∷ []; hooks = one_hook }
