-- Runs of tasks over scenarios, by what the row store hands back.
use Rattle.std.specs.Prelude.{◌≡◌, ℕ, ◌<◌, true, List, length, take, slice_get, Option, Some}
use Rattle.tasks.specs.Prelude.{Calls, Ran, Recorded, Row, Scenario, StartsBy, State, Turn, kept_at_start, recorder, without_turns}
use Rattle.tasks.specs.declared.asked.Task.{Task}

-- a task over a scenario, and the kept rows before and after it, if they are known
pub record Work : Type 0 where
  pub task : Task
  pub scenario : Scenario
  pub old : Option (List Row)
  pub new : Option (List Row)

-- The opening and then these turns lead to these kept rows and to this state: by the kept rows, if they are known. If
-- they aren't, it is by some rows at the opening and at each turn.
pub record Comes (w : Work) (ts : List Turn) (kept : Option (List Row)) (run : Recorded) : Type 0 where
  pub begun : State
  pub opens : StartsBy w.old w.scenario w.task.waits begun
  pub ran : Ran recorder (kept_at_start true w.old w.scenario) (without_turns begun) ts kept run

-- A run is before one of these turns, which met a row store's fault: a turn that calls the row store.
pub record IsCut (came : List Turn → Recorded → Type 0) (ts : List Turn) (run : Recorded) : Type 0 where
  pub k : ℕ
  pub within : k < length ts
  pub comes : came (take k ts) run
  pub calls : (t : Turn) → slice_get ts k ≡ Some t → Calls recorder run t
