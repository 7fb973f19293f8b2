-- What this crate's definitions and contracts cite of others.
pub use Rattle.std.specs.BTreeMap.{get_by_text}
pub use Rattle.std.specs.List.{flat_map}
pub use Rattle.std.specs.Str.{bytes_eq}
unfoldable pub use Rattle.cluster_filters.specs.Patterns.{is_found, is_pattern}
unfoldable pub use Rattle.name_order.specs.NameOrder.{by_name}
unfoldable pub use Rattle.scenario_servers.specs.Names.{server_named}
pub use Rattle.scenario_servers.specs.Prelude.{BadNumber, BTreeMap, Data, Fault, Gives, Global, HostPort, Items, ServerInit, ServerNo, each, fails}
pub use Rattle.scenario_servers.specs.Prelude.{fault_of, holds, item, item_count, items_in, items_view, maybe, members_in, no_items, only_keys}
pub use Rattle.scenario_servers.specs.Prelude.{or_fails, pointwise, printed, text_in, under_item, view}
unfoldable pub use Rattle.scenario_servers.specs.Prelude.{number_in, short_in}
unfoldable pub use Rattle.scenario_servers.specs.Rules.{rule_in}
pub use Rattle.scenario_values.specs.declared.fault.FaultCode.TheVariants.{BadCommand, BadPattern, BadTurn, BadType, NodeTurn}
pub use Rattle.scenarios.specs.Commands.Names.{needs_of}
unfoldable pub use Rattle.scenarios.specs.Commands.Names.{name_of}
pub use Rattle.scenarios.specs.Commands.Turns.{is_there}
pub use Rattle.scenarios.specs.Commands.Values.{seconds_at}
pub use Rattle.scenarios.specs.Commands.declared.name.CommandName.{CommandName}
pub use Rattle.scenarios.specs.Commands.declared.turn.Command as Commands
pub use Rattle.scenarios.specs.Commands.declared.turn.CommandTurn.{CommandTurn}
pub use Rattle.scenarios.specs.Commands.declared.turn.Found.{Found}
pub use Rattle.scenarios.specs.Commands.declared.turn.Keys.{Keys}
pub use Rattle.scenarios.specs.ServerWords.declared.changes.Link.{Link}
pub use Rattle.scenarios.specs.ServerWords.declared.changes.Link.TheVariants.{Desk, Feed}
pub use Rattle.scenarios.specs.Turns.declared.turn.Act.{Act}
pub use Rattle.scenarios.specs.Turns.declared.turn.Act.TheVariants.{Command, Job, PollRead, PollStore, Restart, Scan}
pub use Rattle.scenarios.specs.Turns.declared.turn.Step.TheVariants.{Apply, Cut, Fail, Fetch, Heal, Join, Purge, Rotate, Write}
pub use Rattle.scenarios.specs.Turns.declared.turn.Turn.{Turn}
pub use Rattle.scenarios.specs.Turns.declared.turn.Turn.TheVariants.{Step}
pub use Rattle.scenarios.specs.Turns.declared.turn.Turn.TheVariants as turn
pub use Rattle.scenarios.specs.ValidTurns.{IsCommand, IsNumberOf, IsTurnOf, is_write}
pub use Rattle.serde_json.specs.Find.{as_number, as_u64}
