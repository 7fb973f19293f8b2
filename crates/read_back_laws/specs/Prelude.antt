-- What this crate's definitions and contracts cite of others.
pub use Rattle.scenario_dump.specs.Prelude.{FilterList, Part, ServerNo, array, opening}
pub use Rattle.scenario_dump.specs.Reading.{IsWithinLimits, IsWorldOf, dumped_scenario, refitted}
pub use Rattle.scenario_dump.specs.Servers.{opening_of}
pub use Rattle.scenario_dump.specs.Texts.{dump_text, items_of}
pub use Rattle.scenario_generator.specs.Bounds.{is_drawable}
unfoldable pub use Rattle.scenario_generator.specs.Servers.{servers_from}
pub use Rattle.scenario_generator.specs.Texts.{servers_data, turns_data}
unfoldable pub use Rattle.scenario_generator.specs.Texts.{scenario_text, server_name}
unfoldable pub use Rattle.scenario_generator.specs.Turns.{turns_from}
pub use Rattle.scenario_generator.specs.declared.server.DrawnServer.{DrawnServer}
pub use Rattle.scenario_generator.specs.declared.server.DrawnServer.TheVariants.{Replica, Root}
pub use Rattle.scenario_generator.specs.declared.turn.DrawnTurn.{DrawnTurn}
pub use Rattle.scenario_generator.specs.declared.turn.DrawnTurn.TheVariants.{Apply, Fetch, PollRead, PollStore, Rotate, Write}
pub use Rattle.scenario_reader.specs.Filters.{no_filters}
pub use Rattle.scenario_reader.specs.Openings.Flaws.{flaw_in}
pub use Rattle.scenario_reader.specs.Prelude.{Given, HostPort, IsScenario, Scenario, ServerInit, Turn, each, inits_of, no_hooks}
unfoldable pub use Rattle.scenario_reader.specs.Prelude.{servers_in, turn_in}
pub use Rattle.scenario_reader.specs.ReadOpenings.{is_small, listed_count}
unfoldable pub use Rattle.scenario_reader.specs.ReadScenarios.{scenario_in, scenario_with}
pub use Rattle.scenario_reader.specs.ScenarioServers.Servers.{default_version}
pub use Rattle.scenario_reader.specs.ScenarioServers.declared.given.Identity.{Identity}
pub use Rattle.scenario_reader.specs.ScenarioServers.declared.given.Replication.{Replication}
pub use Rattle.scenario_reader.specs.ScenarioServers.declared.given.Setup.{Setup}
pub use Rattle.scenario_reader.specs.ScenarioTurns.declared.expansion.ListedTurn.{ListedTurn}
pub use Rattle.scenario_reader.specs.ScenarioTurns.declared.expansion.ListedTurn.TheVariants.{One}
pub use Rattle.scenario_reader.specs.Turns.declared.turn.Act.TheVariants as act
pub use Rattle.scenario_reader.specs.Turns.declared.turn.Step.TheVariants as step
pub use Rattle.scenario_reader.specs.Turns.declared.turn.Turn.TheVariants.{Act, Step}
pub use Rattle.scenario_reader.specs.declared.head.Head.{Head}
pub use Rattle.scenarios.specs.Openings.Opening.{IsChecked}
pub use Rattle.schedules.specs.Turns.{name_data, turn_data}
