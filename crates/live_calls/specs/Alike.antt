-- A schedule as the turns of a scenario.
use Rattle.std.specs.Prelude.{◌≡◌, ℕ, List, []}
use Rattle.live_calls.specs.Prelude.{Extra, Scenario, Task, Turn, flushes_of, names_of, room_of, run_answer, run_of, task_answer}
use Rattle.live_calls.specs.Prelude.asked

abbrev pub with_turns : Scenario → List Turn → Scenario
with_turns s ts = record s { turns = ts }

-- the task of `run`
abbrev pub run_task : ℕ → Extra → Task
run_task wait x = record { waits = wait; asked = asked.Run; extra = x }

abbrev pub SchedulesRunAlike : Type 0
SchedulesRunAlike = (s : Scenario) (wait : ℕ) (x : Extra) (ts : List Turn) → room_of (with_turns s ts) ≡ room_of s → flushes_of (with_turns s ts) ≡ flushes_of s
    → task_answer (run_task wait x) (with_turns s ts) [] ≡ run_answer (names_of s) (run_of s wait ts).state
