-- Scenarios that can be run, and the room that a run takes.
use Rattle.std.specs.Prelude.{◌≡◌, ℕ, ◌+◌, ◌*◌, ◌≤◌, List, [], ◌∷◌, length, map, All, count_by, sum_by, max}
use Rattle.server_words.specs.OrchBase.Names.{HostPort}
use Rattle.server_words.specs.OrchBase.declared.server.Settings.{Settings}
use Rattle.openings.specs.declared.init.ServerInit.{ServerInit}
use Rattle.openings.specs.Listed.{transactions}
use Rattle.openings.specs.Opening.{IsChecked}
use Rattle.openings.specs.Servers.{parts_of}
use Rattle.hook_texts.specs.Hooks.{AreHooks}
use Rattle.scenarios.specs.declared.scenario.Scenario.{Scenario}
use Rattle.scenarios.specs.Blocks.{period_in}
use Rattle.scenarios.specs.ValidTurns.{IsTurn, NamesOneOf, is_rotate, is_write}

-- the transactions that histories list
abbrev pub listed_in : List ServerInit → ℕ
listed_in is = sum_by (λ i. transactions (parts_of i)) is

-- the transactions that the scenario's histories list, and one more for each of its write turns
abbrev pub room_of : Scenario → ℕ
room_of s = listed_in s.opening.servers + count_by is_write s.turns

-- the length of the longest list of flush points
abbrev pub longest_flushes : List ServerInit → ℕ
longest_flushes [] = 0
longest_flushes (i ∷ is) = max (length i.flushes) (longest_flushes is)

-- the flush points of one server, and one more new file for each of the scenario's rotate turns
abbrev pub flushes_of : Scenario → ℕ
flushes_of s = longest_flushes s.opening.servers + count_by is_rotate s.turns

-- the servers' settings, in the scenario's order
abbrev pub settings_of : Scenario → List Settings
settings_of s = map (λ i. i.settings) s.opening.servers

-- their names
abbrev pub names_of : Scenario → List HostPort
names_of s = map (λ i. i.settings.name) s.opening.servers

-- the block period of a cluster
abbrev pub period_of : Scenario → List ℕ → ℕ
period_of s cluster = period_in s.blocks s.block cluster

-- The opening is checked, and each turn is one of its servers and of its orchestrators. There are at most 1,000,000
-- turns. The servers together take room for at most 4,000,000 transactions, and each number is in its range. Each
-- server is known or not and has a rule or none. Each filter list has an answer for each server, and each hook has a
-- text.
pub record IsScenario (s : Scenario) : Type 0 where
  pub checked : IsChecked s.opening
  pub moment : s.moment.0 ≤ 1000000000000000
  pub pseudo : s.pseudo ≤ 1000000
  pub some_node : 1 ≤ s.nodes
  pub few_nodes : s.nodes ≤ 16
  pub block : s.block ≤ 1000000000
  pub blocks : All (λ b. b.seconds ≤ 1000000000) s.blocks
  pub turns : All (IsTurn (length s.opening.servers)) s.turns
  pub named : All (NamesOneOf s.nodes) s.turns
  pub few : length s.turns ≤ 1000000
  pub room : length s.opening.servers * room_of s ≤ 4000000
  pub known : length s.known ≡ length s.opening.servers
  pub rules : length s.rules ≡ length s.opening.servers
  pub master : length s.filters.master.passes ≡ length s.opening.servers
  pub intermediate : length s.filters.intermediate.passes ≡ length s.opening.servers
  pub hooks : AreHooks s.hooks
