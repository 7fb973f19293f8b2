-- What a live run reads: a scenario of one orchestrator.
use Rattle.std.specs.Prelude.{ℕ, ◌==◌, List, codes, Result, Ok}
use Rattle.live_calls.specs.Prelude.{Fault, NodeTurn, Scenario, holds, scenario_in, under}
use Rattle.top_call.specs.OrchBase.Gives.{◌>>=◌}

-- several orchestrators are a fault at their number
abbrev pub one_node : ℕ → Result (Unit {0}) Fault
one_node nodes = under (codes "nodes") (holds NodeTurn (nodes == 1))

abbrev pub of_one : Scenario → Result Scenario Fault
of_one s = do
  one ← one_node s.nodes
  Ok s

-- the scenario that the bytes are, or their first fault; that it has several orchestrators is met after all others
abbrev pub live_scenario : List ℕ → Result Scenario Fault
live_scenario bytes = do
  s ← scenario_in bytes
  of_one s
