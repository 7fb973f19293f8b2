-- A desk: the run of a scenario over its journal, and what is left of the scenario's turns.
use Rattle.std.specs.Prelude.{All, Bool, ◌≡◌, ◌⊎◌, ℕ, ⊤, true, if◌then◌else◌, List, [], ◌∷◌, ◌++◌, drop, length}
use Rattle.orch_core.specs.KeptRows.declared.row.Row.{Row}
use Rattle.orch_core.specs.Scenarios.declared.scenario.Scenario.{Scenario}
use Rattle.orch_core.specs.Turns.declared.turn.Turn.{Turn}
use Rattle.orch_core.specs.KeptRows.Rows.{changed}
use Rattle.orch_core.specs.Runs.{Held, Recorded, held_run, held_step, recorder}
use Rattle.orch_core.specs.Starts.{start, start_changes, without_turns}
use Rattle.orch_core.specs.States.{nodes_of}
use Rattle.orch_core.specs.Scenarios.Scenarios.{IsScenario}
use Rattle.orch_core.specs.Scenarios.ValidTurns.{IsTurn, NamesOneOf}
use Rattle.orch_core.specs.Replies.{reply_of}
use Rattle.live_desk.specs.Kinds.{is_command}
use Rattle.live_desk.specs.Entries.{Entry, is_of, turns_in, pairs_in, commands_in, others_in, drives, driver_list}

-- the scenario, how often a job waits, the kept rows, the run, who took which turn, and the commands and other turns of
-- the scenario that are left
pub record DeskState : Type 0 where
  pub scenario : Scenario
  pub wait : ℕ
  pub rows : List Row
  pub run : Recorded
  pub entries : List Entry
  pub commands : List Turn
  pub listed : List Turn

-- the run, and the kept rows beside it
abbrev pub held_of : DeskState → Held Recorded
held_of d = record { rows = d.rows; state = d.run }

-- a scenario's run begins without kept rows
abbrev pub opening : Scenario → ℕ → Held Recorded
opening s wait = record { rows = changed [] (start_changes s []); state = without_turns (start s wait []) }

-- the scenario's run over turns
abbrev pub run_of : Scenario → ℕ → List Turn → Held Recorded
run_of s wait ts = held_run recorder (opening s wait) ts

-- the turns by the driver and the caller, what is left of the scenario's, and all of the scenario's: one of the first
-- and the last begins with the other
pub record IsDriven (driver left all : List Turn) : Type 0 where
  pub extra : List Turn
  pub joined : driver ++ left ≡ all ++ extra
  pub one : (left ≡ []) ⊎ (extra ≡ [])

-- what is kept whenever the lock is free
pub record IsDesk (d : DeskState) : Type 0 where
  pub scenario : IsScenario d.scenario
  pub run : held_of d ≡ run_of d.scenario d.wait (turns_in d.entries)
  pub journal : pairs_in d.entries ≡ d.run.journal
  pub turns : All (IsTurn (length d.scenario.opening.servers)) (turns_in d.entries)
  pub named : All (NamesOneOf d.scenario.nodes) (turns_in d.entries)
  pub commands : commands_in (turns_in d.entries) ++ d.commands ≡ commands_in d.scenario.turns
  pub listed : IsDriven (driver_list d.entries) d.listed (others_in d.scenario.turns)
  pub servers : length d.run.state.world.servers ≡ length d.scenario.opening.servers
  pub nodes : nodes_of d.run.state ≡ d.scenario.nodes

-- the opening
abbrev pub made : Scenario → ℕ → DeskState
made s wait = record {
  scenario = s;
  wait = wait;
  rows = (opening s wait).rows;
  run = (opening s wait).state;
  entries = [];
  commands = commands_in s.turns;
  listed = others_in s.turns;
}

-- a turn is the first of those that are left
abbrev pub IsNext : Turn → List Turn → Type 0
IsNext t [] = ⊥
IsNext t (u ∷ us) = t ≡ u

-- the first one left, which is a command, or is none
pub record IsNextOf (commands : Bool) (t : Turn) (ts : List Turn) : Type 0 where
  pub next : IsNext t ts
  pub kind : is_of commands t ≡ true

-- while there is one
abbrev pub IsNextOfAny : Turn → List Turn → Type 0
IsNextOfAny t [] = ⊤
IsNextOfAny t (u ∷ us) = t ≡ u

-- a command is the next that is left, and so is a turn of the driver or the caller that is none, while one is left
pub record MayTake (d : DeskState) (by : ℕ) (t : Turn) : Type 0 where
  pub command : is_command t ≡ true → IsNext t d.commands
  pub listed : drives by t ≡ true → IsNextOfAny t d.listed

-- the desk after a turn
abbrev pub taken : DeskState → ℕ → Turn → DeskState
taken d by t = record d {
  rows = (held_step recorder (held_of d) t).rows;
  run = (held_step recorder (held_of d) t).state;
  entries = d.entries ++ (by, t, reply_of d.run.state t) ∷ [];
  commands = if is_command t then drop 1 d.commands else d.commands;
  listed = if drives by t then drop 1 d.listed else d.listed;
}

-- nothing is left, and no job is unended
pub record IsIdle (d : DeskState) : Type 0 where
  pub commands : d.commands ≡ []
  pub listed : d.listed ≡ []
  pub jobs : d.run.state.jobs ≡ []
