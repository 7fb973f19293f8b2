-- What a drawn scenario reads as.
use Rattle.std.specs.Prelude.{ℕ, zero, suc, ◌+◌, ◌∷◌, List, [], true, false, Option, Some, None, map}
use Rattle.read_back_laws.specs.Prelude.{Act, Apply, DrawnServer, DrawnTurn, Fetch, Given, HostPort, Identity, ListedTurn, One, Part, PollRead, PollStore}
use Rattle.read_back_laws.specs.Prelude.{Replica, Replication, Root, Rotate, ServerInit, ServerNo, Setup, Step, Turn, Write, default_version, inits_of}
use Rattle.read_back_laws.specs.Prelude.{server_name}
use Rattle.read_back_laws.specs.Prelude.act
use Rattle.read_back_laws.specs.Prelude.step

abbrev pub server_no : ℕ → ServerNo
server_no n = record { 0 = n }

-- the name of server n
abbrev pub name_of : ℕ → HostPort
name_of n = record { host = server_name n; port = 3306 }

-- the names of so many servers, of which the first has number n
abbrev pub names_from : ℕ → ℕ → List (Option HostPort)
names_from n zero = []
names_from n (suc count) = Some (name_of n) ∷ names_from (n + 1) count

-- ---- turns

abbrev pub turn_of : DrawnTurn → Turn
turn_of (Write root size) = Step (step.Write (server_no root) size)
turn_of (Fetch n) = Step (step.Fetch (server_no n))
turn_of (Apply n) = Step (step.Apply (server_no n))
turn_of (Rotate n) = Step (step.Rotate (server_no n))
turn_of (PollRead n) = Act (act.PollRead 0 (server_no n))
turn_of PollStore = Act (act.PollStore 0)

abbrev pub listed_turns : List DrawnTurn → List ListedTurn
listed_turns turns = map (λ t. One (turn_of t)) turns

-- ---- servers

abbrev pub identity_of : ℕ → Identity
identity_of n = record { name = name_of n; uuid = n + 1; server_id = n + 1; version = default_version; cluster = None }

abbrev pub setup_of : DrawnServer → Setup
setup_of Root = record { logs = true; read_only = false; limit = 1073741824; up = true; desk = true; feed = true }
setup_of (Replica source executed) = record { logs = true; read_only = true; limit = 1073741824; up = true; desk = true; feed = true }

-- a root lists 20 transactions of 100 bytes of its own
abbrev pub history_of : ℕ → DrawnServer → Option (List Part)
history_of n Root = Some (record { origin = server_no n; size = 100; count = 20 } ∷ [])
history_of n (Replica source executed) = None

abbrev pub source_of : DrawnServer → Option ServerNo
source_of Root = None
source_of (Replica source executed) = Some (server_no source)

abbrev pub executed_of : DrawnServer → ℕ
executed_of Root = 0
executed_of (Replica source executed) = executed

abbrev pub replication_of : DrawnServer → Replication
replication_of s = record { executed = executed_of s; at = None; read = None; io = None; sql = None; auto = false; detached = false; until = None }

-- server n as it is given
abbrev pub given_of : ℕ → DrawnServer → Given
given_of n s = record {
  identity = identity_of n;
  setup = setup_of s;
  known = true;
  rule = None;
  history = history_of n s;
  source = source_of s;
  replication = replication_of s;
  flushes = [];
  purged = 1;
  dc = [];
}

abbrev pub givens_from : ℕ → List DrawnServer → List Given
givens_from n [] = []
givens_from n (s ∷ ss) = given_of n s ∷ givens_from (n + 1) ss

-- the servers that open
abbrev pub inits_from_drawn : List DrawnServer → List ServerInit
inits_from_drawn ss = inits_of (givens_from 0 ss)
