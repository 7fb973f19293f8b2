-- The turns that listed turns mean.
use Rattle.std.specs.Prelude.{ℕ, ◌++◌, ◌∷◌, List, [], map, length, nat_le, if◌then◌else◌, IfSome, Option, None, Some}
use Rattle.scenario_turns.specs.Prelude.{Act, Apply, Fetch, HostPort, IsNumberOf, IsTurnOf, PollRead, PollStore, ServerInit, ServerNo, Step, Turn}
use Rattle.scenario_turns.specs.Prelude.{by_name, flat_map, printed}
use Rattle.scenario_turns.specs.Prelude.turn
use Rattle.scenario_turns.specs.declared.expansion.ListedTurn.{ListedTurn}
use Rattle.scenario_turns.specs.declared.expansion.ListedTurn.TheVariants.{One, Polls, Round}

abbrev pub server_names : List ServerInit → List HostPort
server_names servers = map (λ i. i.settings.name) servers

-- the servers' names as they are printed
abbrev pub printed_of : List ServerInit → List (List ℕ)
printed_of servers = map printed (server_names servers)

-- the servers' numbers in the order of their names
abbrev pub in_order : List ServerInit → List ServerNo
in_order servers = by_name (server_names servers)

-- the turn in which the one orchestrator does this, or one of several by its number
abbrev pub done_by : Option ℕ → Act → Turn
done_by None a = turn.Act a
done_by (Some node) a = turn.As node a

-- poller 0 of the one orchestrator, or of one of several, reads each of these servers and stores what it read
abbrev pub polls_of : Option ℕ → List ServerNo → List Turn
polls_of by ns = flat_map (λ n. done_by by (PollRead 0 n) ∷ done_by by (PollStore 0) ∷ []) ns

-- a receiver's step and an applier's step at each of these servers
abbrev pub steps_of : List ServerNo → List Turn
steps_of ns = flat_map (λ n. Step (Fetch n) ∷ Step (Apply n) ∷ []) ns

-- the turns that one listed turn means over these servers
abbrev pub expansion_of : List ServerNo → ListedTurn → List Turn
expansion_of ns (One turn) = turn ∷ []
expansion_of ns (Polls by) = polls_of by ns
expansion_of ns Round = steps_of ns ++ polls_of None ns

-- the turns of all listed ones, in order
abbrev pub expanded : List ServerNo → List ListedTurn → List Turn
expanded ns listed = flat_map (expansion_of ns) listed

-- these turns, if they are at most 1,000,000
abbrev pub few : List Turn → Option (List Turn)
few turns = if nat_le (length turns) 1000000 then Some turns else None

-- the listed turn is a turn of so many servers and orchestrators, if it is one turn, and means turns of one of them
abbrev pub IsListedTurn : ℕ → ℕ → ListedTurn → Type 0
IsListedTurn count nodes (One turn) = IsTurnOf count nodes turn
IsListedTurn count nodes (Polls by) = IfSome by (IsNumberOf nodes)
IsListedTurn count nodes Round = Unit {0}
