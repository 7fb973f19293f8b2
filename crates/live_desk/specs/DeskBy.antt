use Rattle.std.specs.Prelude.{◌≡◌, ◌≤◌, ℕ, Bool, true, false, IfSome, List, drop, length, slice_get}
use Rattle.orch_core.specs.Turns.declared.turn.Turn.{Turn}
use Rattle.live_desk.specs.Entries.{entries_of, is_of, those_in}
use Rattle.live_desk.specs.Desks.{DeskState, IsDesk}
use Rattle.live_desk.specs.declared.desk.Desk.TheInside.{Inside}

-- the commands, or the other turns, from a place on
abbrev pub left_from : Bool → List Turn → ℕ → List Turn
left_from commands ts at = those_in commands (drop at ts)

-- at this place is a command, or a turn that is none, or the end
pub record IsAt (commands : Bool) (ts : List Turn) (at : ℕ) : Type 0 where
  pub within : at ≤ length ts
  pub here : IfSome (slice_get ts at) (λ t. is_of commands t ≡ true)

-- what contracts see of a desk
abbrev pub desk_of : Inside → DeskState
desk_of a = record {
  scenario = a.scenario;
  wait = a.wait;
  rows = a.rows;
  run = a.orch;
  entries = entries_of a.numbers.items a.orch.journal;
  commands = left_from true a.scenario.turns a.command;
  listed = left_from false a.scenario.turns a.listed;
}

pub record KeepsDesk (a : Inside) : Type 0 where
  pub desk : IsDesk (desk_of a)
  pub numbers : length a.numbers.items ≡ length a.orch.journal
  pub command : IsAt true a.scenario.turns a.command
  pub listed : IsAt false a.scenario.turns a.listed
