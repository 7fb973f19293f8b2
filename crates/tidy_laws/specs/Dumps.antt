-- When what is dumped of a state of a run reads back.
use Rattle.std.specs.Prelude.{◌≡◌, ℕ, [], map, Ok}
use Rattle.tidy_laws.specs.Prelude.{IsScenario, Scenario, World, dump_text, dumped_scenario, opened_world, refitted, scenario_in}

-- What a scenario has is what was dumped: the moment, whether GTIDs are used, and each server's name, UUID, number,
-- version, label, data centre and log. Also the orchestrators, marks, block periods, aliases, filters and hooks. It has
-- no turns.
pub record SaysWhatWasDumped (w : World) (s : Scenario) (now : ℕ) (x : Scenario) : Type 0 where
  pub moment : x.moment.0 ≡ now
  pub gtid : x.opening.gtid ≡ w.gtid
  pub servers : map (λ i. i.settings) x.opening.servers ≡ map (λ v. v.settings) w.servers
  pub nodes : x.nodes ≡ s.nodes
  pub pseudo : x.pseudo ≡ s.pseudo
  pub block : x.block ≡ s.block
  pub blocks : x.blocks ≡ s.blocks
  pub aliases : x.aliases ≡ s.aliases
  pub filters : x.filters ≡ s.filters
  pub hooks : x.hooks ≡ s.hooks
  pub turns : x.turns ≡ []

-- the text reads without a fault, as the scenario that it has, which is what was dumped; it can be run, and its servers
-- open to the very world
pub record ReadsBack (w : World) (s : Scenario) (now : ℕ) : Type 0 where
  pub reads : scenario_in (dump_text w s now) ≡ Ok (dumped_scenario w s now)
  pub runs : IsScenario (dumped_scenario w s now)
  pub opens : (room flushes : ℕ) → opened_world (dumped_scenario w s now).opening room flushes ≡ refitted room flushes w
  pub says : (x : Scenario) → scenario_in (dump_text w s now) ≡ Ok x → SaysWhatWasDumped w s now x
