-- Turns whose texts read.
use Rattle.std.specs.Prelude.{◌≡◌, ◌<◌, ◌≤◌, ◌^◌, ℕ, List, length, map, Option, IfSome, Ok}
use Rattle.read_back_laws.specs.Prelude.{HostPort, ListedTurn, One, ServerNo, Turn, name_data}
use Rattle.scenarios.specs.Commands.declared.turn.CommandTurn.{CommandTurn}
use Rattle.scenarios.specs.Turns.declared.turn.Act.{Act}
use Rattle.scenarios.specs.Turns.declared.turn.Act.TheVariants as act
use Rattle.scenarios.specs.Turns.declared.turn.Turn.TheVariants as turn
use Rattle.scenarios.specs.ValidTurns.{IsCommand, IsStep, pollers}
use Rattle.scenario_reader.specs.ScenarioServers.Names.{server_named}
use Rattle.scenario_reader.specs.ScenarioTurns.KnownPatterns.{IsKnown}

-- each server's printed name reads as that server
abbrev pub NamesRead : List (Option HostPort) → List HostPort → Type 0
NamesRead listed names = (n : ServerNo) → n.0 < length names → server_named listed (name_data names n) ≡ Ok n

-- A command over so many servers. If it has a pattern, that has the answers over these printed names.
pub record IsTold (count : ℕ) (printed : List (List ℕ)) (c : CommandTurn) : Type 0 where
  pub command : IsCommand count c
  pub known : IfSome c.keys.pattern (λ f. IsKnown f.text f.answers printed)

abbrev pub IsToldAct : ℕ → List (List ℕ) → Act → Type 0
IsToldAct count printed (act.PollRead p n) = (p < pollers) × (n.0 < count)
IsToldAct count printed (act.PollStore p) = p < pollers
IsToldAct count printed (act.Command c) = IsTold count printed c
IsToldAct count printed (act.Job job) = job < 2 ^ 64
IsToldAct count printed act.Scan = Unit {0}
IsToldAct count printed act.Restart = Unit {0}

-- a turn over so many servers by one orchestrator
abbrev pub IsToldTurn : ℕ → List (List ℕ) → Turn → Type 0
IsToldTurn count printed (turn.Step x) = IsStep count x
IsToldTurn count printed (turn.Tick seconds) = seconds ≤ 1000000000
IsToldTurn count printed (turn.Act a) = IsToldAct count printed a
IsToldTurn count printed (turn.As node a) = ⊥
IsToldTurn count printed (turn.Claim node) = ⊥
IsToldTurn count printed (turn.Release node) = ⊥

-- each as one listed turn
abbrev pub listed_of : List Turn → List ListedTurn
listed_of ts = map One ts
