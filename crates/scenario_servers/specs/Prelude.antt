-- What this crate's definitions and contracts cite of others.
pub use Rattle.std.specs.BTreeMap.{BTreeMap}
pub use Rattle.std.specs.Cmp.Lexicographic.{pointwise}
pub use Rattle.std.specs.Cmp.Rules.{comparing, hashing}
pub use Rattle.std.specs.HashMap.{HashMap, get_by, get_by_text}
pub use Rattle.std.specs.List.{list_any}
pub use Rattle.std.specs.Map.{update}
pub use Rattle.std.specs.Option.{option_or}
pub use Rattle.std.specs.Ordering.{eq_of_both, on}
pub use Rattle.std.specs.Str.{bytes_eq}
pub use Rattle.std.specs.declared.alloc.Global.{Global}
unfoldable pub use Rattle.commands.specs.Values.{rule_at}
pub use Rattle.openings.specs.Opening.{IsServer}
pub use Rattle.openings.specs.Servers.{number_of, reached_from}
pub use Rattle.openings.specs.declared.init.ServerInit.{ServerInit}
pub use Rattle.openings.specs.declared.part.Part.{Part}
pub use Rattle.server_words.specs.OrchBase.Gives.{Gives}
pub use Rattle.server_words.specs.OrchBase.Names.{HostPort, printed, same_name}
unfoldable pub use Rattle.server_words.specs.OrchBase.Names.{name_at}
pub use Rattle.server_words.specs.OrchBase.declared.name.NameFault.{NameFault}
pub use Rattle.server_words.specs.OrchBase.declared.rule.Rule.{Rule}
pub use Rattle.server_words.specs.OrchBase.declared.server.ServerNo.{ServerNo}
pub use Rattle.server_words.specs.OrchBase.declared.server.Settings.{Settings}
pub use Rattle.server_words.specs.OrchBase.declared.server.Version.{Version}
pub use Rattle.scenario_values.specs.Faults.{each, each_from, fails, fault_of, holds, item_count, maybe, needed, only_keys, optional, or_fails, under}
pub use Rattle.scenario_values.specs.Faults.{under_item}
pub use Rattle.scenario_values.specs.Values.{bool_in, items_in, members_in, name_or_fails, text_in}
unfoldable pub use Rattle.scenario_values.specs.Values.{coord_in, label_in, name_in, number_in, short_in, uuid_in, version_in, whole_in}
pub use Rattle.scenario_values.specs.declared.fault.Fault.{Fault}
pub use Rattle.scenario_values.specs.declared.fault.FaultCode.TheVariants.{AutoWithoutGtid, BadNumber, DuplicateName, DuplicateUuid, UnknownName}
pub use Rattle.serde_json.specs.Data.{Data, Items, item, no_items}
pub use Rattle.serde_json.specs.Find.{as_str, get}
pub use Rattle.serde_json.specs.View.{items_view, members_view, view}
