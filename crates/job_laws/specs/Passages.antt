-- Runs of turns over servers with jobs.
use Rattle.std.specs.Prelude.{ℕ, Bool, if◌then◌else◌, List, [], ◌∷◌, slice_index_or, Option, Some, None, IfSome}
use Rattle.job_laws.specs.Prelude.{Allowed, Exchange, Job, JoinsWell, Moment, Observation, ServerNo, Turned, observed, run, turned}
use Rattle.job_laws.specs.Held.{KeepsHeld}
use Rattle.job_laws.specs.Sound.{KeepsSound}
use Rattle.job_laws.specs.Leases.{Begins, KeepsLeases, job_at}
use Rattle.job_laws.specs.Flights.{Flight, IsShown, IsShownBridged, exchanged, slotted, stored, forgotten, restarted, begun, after_turn}

-- What a turn does:
-- - an exchange that is no job's;
-- - a poll that reads a server into its slot; a slot's reading that is stored or passed over; a server that is read and
--   stored at once;
-- - an instance that is forgotten; a restart;
-- - a job that begins; a job's turn by its operations, and one that was decided otherwise, each with a reading that is
--   stored or passed over.
pub data Passage : Type 0 where
  Exchanging : (e : Exchange) → Passage
  Polling : (p : ℕ) (n : ServerNo) (read : ℕ) (now : Moment) → Passage
  Storing : (p : ℕ) (keeps : Bool) → Passage
  Discovering : (n : ServerNo) (read : ℕ) (now : Moment) → Passage
  Forgetting : (n : ServerNo) → Passage
  Restarting : Passage
  Beginning : (list : List ServerNo) (j : Job) → Passage
  Turning : (id read : ℕ) (now : Moment) (keeps : Bool) → Passage
  Taking : (id : ℕ) (t : Turned) (keeps : Bool) → Passage

-- a reading is stored, if there is one and the book takes it
abbrev pub stored_if : Bool → Flight → Option Observation → Flight
stored_if keeps f None = f
stored_if keeps f (Some o) = if keeps then stored f o else f

abbrev pub slot_of : Flight → ℕ → Option Observation
slot_of f p = slice_index_or f.slots p None

abbrev pub turned_by : Flight → ℕ → ℕ → Moment → Bool → Option Job → Flight
turned_by f id read now keeps None = f
turned_by f id read now keeps (Some j) = stored_if keeps (after_turn f id (turned f.world read now j)) (turned f.world read now j).observation

abbrev pub passed : Flight → Passage → Flight
passed f (Exchanging e) = exchanged f e
passed f (Polling p n read now) = slotted f p (Some (observed f.world read now n))
passed f (Storing p keeps) = slotted (stored_if keeps f (slot_of f p)) p None
passed f (Discovering n read now) = stored f (observed f.world read now n)
passed f (Forgetting n) = forgotten f n
passed f Restarting = restarted f
passed f (Beginning list j) = begun f list j
passed f (Turning id read now keeps) = turned_by f id read now keeps (job_at f.jobs id)
passed f (Taking id t keeps) = stored_if keeps (after_turn f id t) t.observation

-- A turn that was decided otherwise makes allowed exchanges with servers that are leased to the job, which has `Held`
-- and its leases after it. What it observed was true.
pub record MayTake (f : Flight) (id : ℕ) (t : Turned) : Type 0 where
  pub held : KeepsHeld f.world t
  pub leases : KeepsLeases f.leases id t
  pub shown : IfSome t.observation (IsShown (run f.world t.exchanges))

-- with `Sound` its attachments join well, and each bridge that the job saw or that it observed is right
pub record TakesWell (f : Flight) (t : Turned) : Type 0 where
  pub sound : KeepsSound f.world t
  pub bridged : IfSome t.observation (IsShownBridged (run f.world t.exchanges))

-- An exchange that is no job's is allowed and joins well. A job begins with operations that have `Held`, over servers
-- that are free. A turn that was decided otherwise keeps what a job's own turn does.
abbrev pub MayPass : Flight → Passage → Type 0
MayPass f (Exchanging e) = Allowed f.world e × JoinsWell f.world e
MayPass f (Beginning list j) = Begins f.world f.jobs f.leases list j
MayPass f (Polling p n read now) = Unit {0}
MayPass f (Storing p keeps) = Unit {0}
MayPass f (Discovering n read now) = Unit {0}
MayPass f (Forgetting n) = Unit {0}
MayPass f Restarting = Unit {0}
MayPass f (Turning id read now keeps) = Unit {0}
MayPass f (Taking id t keeps) = MayTake f id t

-- what a turn that was decided otherwise owes a state with `Sound`; every other turn owes it nothing more
abbrev pub PassesWell : Flight → Passage → Type 0
PassesWell f (Exchanging e) = Unit {0}
PassesWell f (Beginning list j) = Unit {0}
PassesWell f (Polling p n read now) = Unit {0}
PassesWell f (Storing p keeps) = Unit {0}
PassesWell f (Discovering n read now) = Unit {0}
PassesWell f (Forgetting n) = Unit {0}
PassesWell f Restarting = Unit {0}
PassesWell f (Turning id read now keeps) = Unit {0}
PassesWell f (Taking id t keeps) = TakesWell f t

abbrev pub passing : Flight → List Passage → Flight
passing f [] = f
passing f (p ∷ ps) = passing (passed f p) ps

abbrev pub AllMayPass : Flight → List Passage → Type 0
AllMayPass f [] = Unit {0}
AllMayPass f (p ∷ ps) = MayPass f p × AllMayPass (passed f p) ps

abbrev pub AllPassWell : Flight → List Passage → Type 0
AllPassWell f [] = Unit {0}
AllPassWell f (p ∷ ps) = PassesWell f p × AllPassWell (passed f p) ps
