-- What the turns of a task are over, and what its report comes to by what is asked.
use Rattle.std.specs.Prelude.{◌≡◌, List, All, Option, length}
use Rattle.tasks.specs.Prelude.{CommandTurn, HostPort, IsCommand, IsTurn, NamesOneOf, Row, Scenario, State, Turn, nodes_of}
use Rattle.tasks.specs.declared.asked.Asked.TheVariants as asked
use Rattle.tasks.specs.declared.asked.Extra.{Extra}
use Rattle.tasks.specs.declared.asked.Task.{Task}
use Rattle.tasks.specs.declared.ending.Ending.{Ending}
use Rattle.tasks.specs.Endings.{Stands}
use Rattle.tasks.specs.Progress.{Point, course_from}
use Rattle.tasks.specs.Sinks.{End, Taken, between}

-- turns over the servers of a state
abbrev pub AreTurnsIn : State → List Turn → Type 0
AreTurnsIn s ts = All (IsTurn (length s.world.servers)) ts

-- and each that names an orchestrator names one of the state's
abbrev pub AreNamedIn : State → List Turn → Type 0
AreNamedIn s ts = All (NamesOneOf (nodes_of s)) ts

abbrev pub IsCommandIn : State → CommandTurn → Type 0
IsCommandIn s c = IsCommand (length s.world.servers) c

-- ---- reports from a point on

-- of any task that asks for a run; err takes nothing
abbrev pub RunStands : List HostPort → List Turn → Point → Option (List Row) → End → Ending → Type 0
RunStands names ts from kept out ending = (task : Task) (s : Scenario) (err : Taken) → task.asked ≡ asked.Run → Stands (course_from task names s ts from kept) out (between err err) ending

-- of any task that asks for a run's summary
abbrev pub SummaryStands : List Turn → Point → Option (List Row) → End → End → Ending → Type 0
SummaryStands ts from kept out err ending = (names : List HostPort) (s : Scenario) (task : Task) → task.asked ≡ asked.Summary → Stands (course_from task names s ts from kept) out err ending

-- of any task that asks for this command, with this beside its answer
abbrev pub CommandStands : CommandTurn → Extra → List HostPort → Scenario → List Turn → Point → Option (List Row) → End → End → Ending → Type 0
CommandStands own x names s ts from kept out err ending = (task : Task) → task.asked ≡ asked.Turn own → task.extra ≡ x → Stands (course_from task names s ts from kept) out err ending

-- of any task that asks for this command's plan
abbrev pub PlanStands : CommandTurn → List HostPort → List Turn → Point → Option (List Row) → End → End → Ending → Type 0
PlanStands own names ts from kept out err ending = (task : Task) (s : Scenario) → task.asked ≡ asked.Plan own → Stands (course_from task names s ts from kept) out err ending

-- of any task that asks about an instance that no server is, with this beside its answer
abbrev pub UnknownStands : Extra → List HostPort → Scenario → List Turn → Point → Option (List Row) → End → End → Ending → Type 0
UnknownStands x names s ts from kept out err ending = (task : Task) → task.asked ≡ asked.Unknown → task.extra ≡ x → Stands (course_from task names s ts from kept) out err ending

-- of any task that asks for this scenario's servers as they are then
abbrev pub DumpStands : List HostPort → Scenario → List Turn → Point → Option (List Row) → End → End → Ending → Type 0
DumpStands names s ts from kept out err ending = (task : Task) → task.asked ≡ asked.Dump → Stands (course_from task names s ts from kept) out err ending
