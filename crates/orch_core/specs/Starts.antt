-- The states with which runs of scenarios begin.
use Rattle.std.specs.Prelude.{◌≡◌, ℕ, ◌+◌, List, [], length, Option, Some, None, Bool, if◌then◌else◌}
use Rattle.orch_core.specs.Prelude.{AuditState, BookState, Change, Configuration, Moment, Row, Scenario, World, audit_of, changed, closed, counted}
use Rattle.orch_core.specs.Prelude.{flushes_of, greatest_id, last_id, last_read, latest, loaded, loading, made, opened_book, opened_world}
use Rattle.orch_core.specs.Prelude.{opening_changes, option_map, period_of, room_of, settings_of}
use Rattle.orch_core.specs.Nodes.{holder_of, kept_claim}
use Rattle.orch_core.specs.Polls.{empty_slots}
use Rattle.orch_core.specs.Runs.{Recorded}
use Rattle.orch_core.specs.States.{State}

-- the servers with which it begins
abbrev pub start_world : Scenario → World
start_world s = opened_world s.opening (room_of s) (flushes_of s)

-- the kept rows that count
abbrev pub start_rows : Scenario → List Row → List Row
start_rows s rows = counted (length s.opening.servers) greatest_id rows

-- when the run begins: at the scenario's moment, or the latest begun or ended moment of a row that counts
abbrev pub start_moment : Scenario → List Row → Moment
start_moment s rows = record { 0 = latest s.moment.0 (start_rows s rows) }

-- the book of the rows that count
abbrev pub loaded_book : Scenario → List Row → BookState
loaded_book s rows = loaded (settings_of s) greatest_id rows

-- the audit of the rows that count; the next id is one more than the last of all rows, those that don't count too
abbrev pub loaded_audit : Scenario → List Row → AuditState
loaded_audit s rows = audit_of (period_of s) (last_id rows + 1) (start_rows s rows)

-- What is kept anew: the instances of the known servers that no row that counts has, and the scenario's registrations.
-- Then the recoveries whose rows have no block period with their clusters', and the unended ones as interrupted.
abbrev pub start_changes : Scenario → List Row → List Change
start_changes s rows = opening_changes (start_world s) (start_moment s rows) (loaded_book s rows) s.known s.rules (loading (period_of s) (start_rows s rows) (loaded_audit s rows) (start_moment s rows))

-- what holds throughout the run: a job is to wait at most so many times, the distance of marks, the block periods, and
-- whose recoveries may begin by themselves
abbrev pub configuration_of : ℕ → Scenario → Configuration
configuration_of wait s = record { wait = wait; every = s.pseudo; block = s.block; blocks = s.blocks; master = s.filters.master.passes; intermediate = s.filters.intermediate.passes; hooks = s.hooks; aliases = s.aliases }

-- the claim of the rows that count
abbrev pub start_claim : Scenario → List Row → Option (ℕ × Moment)
start_claim s rows = kept_claim (start_rows s rows)

-- The state with which the scenario's run begins, by the rows of its row store. An instance that the opening puts
-- brings the bridge of its status if it is valid, and a kept row brings none. No node remembers a claim.
abbrev pub start : Scenario → ℕ → List Row → State
start s wait rows = record {
  world = start_world s;
  moment = (start_moment s rows).0;
  book = opened_book (loaded_book s rows) (start_changes s rows);
  audit = closed (loaded_audit s rows) (start_moment s rows);
  slots = empty_slots;
  reads = last_read (start_rows s rows);
  jobs = [];
  last_job = 0;
  configuration = configuration_of wait s;
  claims = made s.nodes (start_claim s rows);
  last_holder = holder_of (start_claim s rows);
}

-- with no turn yet
abbrev pub without_turns : State → Recorded
without_turns s = record { state = s; journal = [] }

-- the run begins by the kept rows, if they are known, and else by some rows
abbrev pub StartsBy : Option (List Row) → Scenario → ℕ → State → Type 0
StartsBy None s wait now = (rows : List Row) × (now ≡ start s wait rows)
StartsBy (Some rows) s wait now = now ≡ start s wait rows

-- the kept rows with the opening's changes, if they are known
abbrev pub kept_at_start : Bool → Option (List Row) → Scenario → Option (List Row)
kept_at_start made kept s = if made then option_map (λ rows. changed rows (start_changes s rows)) kept else kept
