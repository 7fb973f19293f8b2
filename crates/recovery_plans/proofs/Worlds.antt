-- Made worlds and books, and recoveries that go their whole way over them.
use Rattle.std.proofs.Common.{ℕ, zero, suc, ◌+◌, ◌*◌, Bool, true, false, List, [], ◌∷◌, map, Some, None, ◌==◌, if◌then◌else◌}
use Rattle.recovery_plans.proofs.Prelude.{BookState, Bridge, Coord, Entry, Exchange, Moment, Recovery, Rule, Server, ServerNo, Settings, SourceState}
use Rattle.recovery_plans.proofs.Prelude.{Taken, Txn, World, has_source, is_going, run, taken}

abbrev pub server_no : ℕ → ServerNo
server_no n = record { 0 = n }

-- a position of the first file
abbrev pub at : ℕ → Coord
at p = record { file = 1; pos = p }

-- so many transactions of 100 bytes of server 0, from this number on
abbrev txns : ℕ → ℕ → List Txn
txns from zero = []
txns from (suc k) = record { origin = server_no 0; seq = from; size = 100 } ∷ txns (from + 1) k

abbrev entries : ℕ → ℕ → List Entry
entries start zero = []
entries start (suc k) = record { file = 1; start = start; end = start + 100 } ∷ entries (start + 100) k

-- the end of so many transactions
abbrev pub end : ℕ → Coord
end k = at (4 + 100 * k)

abbrev pub now : Moment
now = record { 0 = 0 }

module _ (st : Settings) where
  -- a server that has executed so many transactions of server 0
  abbrev pub server : ℕ → SourceState → ℕ → Bool → Server
  server n source k up = record {
    settings = record st { logs = true; uuid = n; dc = [] };
    history = record { txns = txns 1 k; room = 99 };
    log = record { log = record { limit = 100000; entries = entries 4 k; files = 1; pos = 4 + 100 * k }; txns = txns 1 k; room = 99; flushes = 9 };
    first = 1;
    source = source;
    exec = end k;
    read = end k;
    auto = false;
    receiver = has_source source;
    applier = has_source source;
    until = None;
    read_only = true;
    up = up;
    desk = true;
    feed = true;
  }

  abbrev pub world : List Server → World
  world servers = record { servers = servers; gtid = false; errant = 0 }

-- the book of servers with one-letter names, with these bridges and rules
abbrev pub book : List ℕ → List (List Bridge) → List Rule → BookState
book letters rings rules = record {
  settings = [];
  names = map (λ x. record { host = x ∷ []; port = 3306 }) letters;
  instances = [];
  downtimes = [];
  candidates = map (λ r. Some (record { no = server_no 0; rule = r; until = record { 0 = 3600 } })) rules;
  switch = None;
  rings = rings;
  leases = [];
}

-- a bridge of a server under another, at one place of both logs
abbrev pub bridge : ℕ → ℕ → ℕ → Bridge
bridge n m k = record { no = server_no n; source = server_no m; own = end k; exec = end k }

-- The turns of a recovery until it ends, with others' exchanges after each turn. It gives what the last turn came to,
-- how many turns there were, and the world after it.
abbrev pub rounds : BookState → (ℕ → List Exchange) → ℕ → ℕ → World → Recovery → Taken × ℕ × World
rounds b between k zero w r = (taken w b 0 now r, k + 1, w)
rounds b between k (suc n) w r =
    if is_going (taken w b 0 now r).step then rounds b between (k + 1) n (run (run w (taken w b 0 now r).exchanges) (between (k + 1))) (taken w b 0 now r).recovery
    else (taken w b 0 now r, k + 1, run w (taken w b 0 now r).exchanges)

-- with the same exchanges after each turn
abbrev pub each_turn : List Exchange → ℕ → List Exchange
each_turn es k = es

-- or after one of them
abbrev pub at_turn : ℕ → List Exchange → ℕ → List Exchange
at_turn n es k = if k == n then es else []
