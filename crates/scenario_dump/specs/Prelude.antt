-- What this crate's definitions and contracts cite of others.
pub use Rattle.std.specs.Cmp.Lexicographic.{slice_cmp}
pub use Rattle.std.specs.Ordering.{nat_cmp}
pub use Rattle.std.specs.Str.{IsUtf8, is_utf8}
pub use Rattle.std.specs.declared.cmp.Ordering.TheVariants.{Less}
pub use Rattle.json.specs.Print.{quoted, token_text}
pub use Rattle.json.specs.Token as token
pub use Rattle.scenarios.specs.BinlogCoords.Text.{coord_text}
pub use Rattle.scenarios.specs.BinlogCoords.declared.Entry.{Entry}
pub use Rattle.scenarios.specs.GtidSets.Printed.{uuid_text}
pub use Rattle.scenarios.specs.HookTexts.Hooks.{no_hooks}
pub use Rattle.scenarios.specs.HookTexts.declared.hooks.Hook.{Hook}
pub use Rattle.scenarios.specs.HookTexts.declared.hooks.Hooks.{Hooks}
pub use Rattle.scenarios.specs.Openings.Listed.{transactions}
pub use Rattle.scenarios.specs.Openings.Opening.{Opened, opening}
pub use Rattle.scenarios.specs.Openings.Servers.{parts_of}
pub use Rattle.scenarios.specs.Openings.declared.init.ServerInit.{ServerInit}
pub use Rattle.scenarios.specs.Openings.declared.part.Part.{Part}
pub use Rattle.scenarios.specs.OrchBase.Names.{IsName, printed}
pub use Rattle.scenarios.specs.OrchBase.Words.{version_text}
pub use Rattle.scenarios.specs.OrchBase.declared.rule.Rule.{Rule}
pub use Rattle.scenarios.specs.OrchBase.declared.source.TheConstants.{MAX_SCENARIO_LEN}
pub use Rattle.scenarios.specs.Scenarios.{settings_of}
pub use Rattle.scenarios.specs.declared.blocks.Block.{Block}
pub use Rattle.scenarios.specs.declared.filters.Alias.{Alias}
pub use Rattle.scenarios.specs.declared.filters.ClusterFilters.{ClusterFilters}
pub use Rattle.scenarios.specs.declared.filters.FilterList.{FilterList}
pub use Rattle.scenarios.specs.declared.scenario.Scenario.{Scenario}
pub use Rattle.serde_json.specs.Data.{Data, Items, Members, array, boolean, item, member, no_items, no_members, number, object, string, unsigned}
pub use Rattle.serde_json.specs.Read.{read}
pub use Rattle.serde_json.specs.Written.{comma_if, compact_text, items_text}
pub use Rattle.server_model.specs.Desk.{is_detached}
pub use Rattle.server_model.specs.Fit.{HasSize}
pub use Rattle.server_model.specs.Prelude.{Attached, Coord, Detached, Log, ServerNo, Settings, SourceState, Txn, Without, file_start, flush, opened}
pub use Rattle.server_model.specs.Prelude.{push}
pub use Rattle.server_model.specs.Safe.{IsQuiet, Safe}
pub use Rattle.server_model.specs.Worlds.{World, history_of, server_at, source_no}
pub use Rattle.server_model.specs.declared.server.Server.{Server}
