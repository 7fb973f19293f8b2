-- What this crate's definitions and contracts cite of others.
pub use Rattle.std.specs.List.{list_all}
pub use Rattle.std.specs.Str.{bytes_eq, is_utf8}
pub use Rattle.cluster_filters.specs.Forms.{Form, form_of, forms_of, has_pattern, some_matches}
pub use Rattle.scenario_servers.specs.Openings.{IsGiven, inits_of, known_of, rules_of}
unfoldable pub use Rattle.scenario_servers.specs.Servers.{servers_in}
pub use Rattle.scenario_servers.specs.declared.given.Given.{Given}
pub use Rattle.scenario_turns.specs.Expansion.{expanded, in_order, printed_of}
pub use Rattle.scenario_turns.specs.Prelude.{BadNumber, BadType, Data, Fault, Gives, HostPort, Items, ServerInit, Turn, as_number, as_u64, each}
pub use Rattle.scenario_turns.specs.Prelude.{fails, fault_of, holds, item, items_in, items_view, members_in, no_items, only_keys, or_fails, text_in}
pub use Rattle.scenario_turns.specs.Prelude.{under_item, view}
unfoldable pub use Rattle.scenario_turns.specs.Prelude.{number_in}
unfoldable pub use Rattle.scenario_turns.specs.Turns.{turn_in}
pub use Rattle.scenario_values.specs.Faults.{each_member, needed, needed_in, optional, optional_in, under}
pub use Rattle.scenario_values.specs.Values.{bool_in, label_or_fails, text_within}
pub use Rattle.scenario_values.specs.declared.fault.FaultCode.TheVariants.{BadHook, BadVersion, Missing, NotJson, TooLarge, TooLong}
pub use Rattle.scenarios.specs.HookTexts.Hooks.{no_hooks}
pub use Rattle.scenarios.specs.HookTexts.declared.hooks.Hook.{Hook}
pub use Rattle.scenarios.specs.HookTexts.declared.hooks.Hooks.{Hooks}
pub use Rattle.scenarios.specs.Openings.Listed.{transactions}
pub use Rattle.scenarios.specs.OrchBase.declared.source.TheConstants.{MAX_SCENARIO_LEN}
pub use Rattle.scenarios.specs.Scenarios.{IsScenario}
pub use Rattle.scenarios.specs.ValidTurns.{is_write}
pub use Rattle.scenarios.specs.declared.blocks.Block.{Block}
pub use Rattle.scenarios.specs.declared.filters.Alias.{Alias}
pub use Rattle.scenarios.specs.declared.filters.FilterList.{FilterList}
pub use Rattle.scenarios.specs.declared.scenario.Scenario.{Scenario}
pub use Rattle.serde_json.specs.Find.{get, get_member}
pub use Rattle.serde_json.specs.Read.{read}
pub use Rattle.serde_json.specs.View.{members_view}
