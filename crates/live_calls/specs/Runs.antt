-- What holds of each state of a live run: whatever turns its threads take, in whatever order.
use Rattle.std.specs.Prelude.{All, ◌≡◌, ℕ, true, List, [], length, Some, Ok}
use Rattle.live_calls.specs.Prelude.{BeginsApart, CommandTurn, Docket, Finishes, IsActiveAlone, IsFinish, IsSafeState, IsTurnOf, Line, Obeys, Places}
use Rattle.live_calls.specs.Prelude.{Recorded, Recovery, Row, Scenario, TellsHooks, TellsTruly, Turn, Work, is_live, job_at, names_of, places_of}
use Rattle.live_calls.specs.Prelude.{run_of, scenario_in, task_of}
use Rattle.live_calls.specs.Prelude.unended

-- the command line's task over the scenario, by rows in memory
abbrev pub live_work : Places → Scenario → List Turn → Work
live_work p s ts = record { task = task_of p (names_of s); scenario = s; old = Some []; new = Some (run_of s p.wait ts).rows }

-- The state is safe. A command would answer by the permission table. Any turn's recoveries would begin without overlap.
-- At most one orchestrator is active. A recovery that is done, or fails, reports of each replica what is true, and its
-- hooks.
pub record GoesWell (w : Work) (ts : List Turn) (run : Recorded) : Type 0 where
  pub safe : IsSafeState run.state
  pub commands : (rows : List Row) (c : CommandTurn) → Obeys rows run.state c
  pub begins : (rows : List Row) (t : Turn) → BeginsApart w rows run.state t
  pub alone : IsActiveAlone w run.state
  pub finishes : (rows : List Row) (id : ℕ) (r : Recovery) (docket : Docket) (lines : List Line) → IsFinish run.state id r docket lines → Finishes w ts rows run.state id r docket lines
  pub losses : (id : ℕ) (r : Recovery) (docket : Docket) → job_at run.state.jobs id ≡ Some (unended.Recovery r docket) → TellsTruly w ts run.state id r docket
  pub hooks : (rows : List Row) (id : ℕ) (r : Recovery) (docket : Docket) → job_at run.state.jobs id ≡ Some (unended.Recovery r docket) → TellsHooks w ts rows run.state id r docket

-- If the command line asks for a live run, so it is after any turns over the servers and orchestrators of the scenario
-- that the bytes are. That includes the turns of its schedule, and any that its threads take first.
abbrev pub LiveGoesWell : List (List ℕ) → List ℕ → Type 0
LiveGoesWell words bytes = (p : Places) (s : Scenario) (ts : List Turn) → places_of words ≡ Ok p → is_live p ≡ true → scenario_in bytes ≡ Ok s → All (IsTurnOf (length s.opening.servers) s.nodes) ts → GoesWell (live_work p s ts) ts (run_of s p.wait ts).state
