-- What a dump reads as: a scenario that opens to the very world.
use Rattle.std.specs.Prelude.{◌≡◌, ℕ, ◌*◌, ◌-◌, ◌≤◌, Bool, true, List, [], length, map, sum_by, All, Option, None}
use Rattle.scenario_dump.specs.Prelude.{IsQuiet, MAX_SCENARIO_LEN, Rule, Safe, Scenario, Server, World, parts_of, settings_of, transactions}
use Rattle.scenario_dump.specs.Servers.{opening_of, points_of}
use Rattle.scenario_dump.specs.Texts.{dump_text}
use Rattle.scenario_dump.specs.Tidy.{IsTidy}

-- a world of the servers of a scenario with the invariant `IsQuiet`
pub record IsWorldOf (s : Scenario) (w : World) : Type 0 where
  pub settings : map (λ x. x.settings) w.servers ≡ settings_of s
  pub gtid : w.gtid ≡ s.opening.gtid
  pub safe : Safe w
  pub tidy : IsTidy w
  pub quiet : IsQuiet w

-- the limits of scenarios: of the text, of the servers times the transactions of those without a source, of flush
-- points, and of the moment
pub record IsWithinLimits (w : World) (s : Scenario) (now : ℕ) : Type 0 where
  pub text : length (dump_text w s now) ≤ MAX_SCENARIO_LEN
  pub listed : length w.servers * sum_by (λ i. transactions (parts_of i)) (opening_of w).servers ≤ 4000000
  pub flushes : All (λ i. length i.flushes ≤ 1000000) (opening_of w).servers
  pub moment : now ≤ 1000000000000000

-- what is known and how candidates are registered isn't dumped: every server is known, and none is registered
abbrev pub all_known : List Server → List Bool
all_known servers = map (λ x. true) servers

abbrev pub no_rules : List Server → List (Option Rule)
no_rules servers = map (λ x. None) servers

-- the servers as they are, and what the scenario has beside servers and turns
unfoldable pub dumped_scenario : World → Scenario → ℕ → Scenario
dumped_scenario w s now = record {
  opening = opening_of w;
  moment = record { 0 = now };
  pseudo = s.pseudo;
  nodes = s.nodes;
  block = s.block;
  blocks = s.blocks;
  aliases = s.aliases;
  filters = s.filters;
  hooks = s.hooks;
  known = all_known w.servers;
  rules = no_rules w.servers;
  turns = [];
}

-- a server with room for so many transactions and flushes
abbrev pub refitted_server : ℕ → ℕ → Server → Server
refitted_server room flushes s = record s {
  history = record s.history { room = room };
  log = record s.log { room = room; flushes = flushes - length (points_of s) };
}

unfoldable pub refitted : ℕ → ℕ → World → World
refitted room flushes w = record w { servers = map (refitted_server room flushes) w.servers }
