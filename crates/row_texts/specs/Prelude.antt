-- What this crate's definitions and contracts cite of others.
pub use Rattle.std.specs.List.{All, AllPairs, after_first, before_first, list_all, position_or_len}
pub use Rattle.std.specs.Result.{result_ok}
pub use Rattle.std.specs.Str.{all_ascii_digits, bytes_eq, is_utf8}
pub use Rattle.std.specs.Str.Parse.{digits_value}
pub use Rattle.kept_rows.specs.BinlogCoords.Grammar.{HasText}
unfoldable pub use Rattle.kept_rows.specs.BinlogCoords.Grammar.{coord_at}
pub use Rattle.kept_rows.specs.BinlogCoords.Text.{coord_text}
pub use Rattle.kept_rows.specs.BinlogCoords.declared.Coord.{Coord}
unfoldable pub use Rattle.kept_rows.specs.GtidSets.Grammar.{text_at}
pub use Rattle.kept_rows.specs.GtidSets.Printed.{printed}
pub use Rattle.kept_rows.specs.GtidSets.Sets.{IsSet, high, largest, low}
pub use Rattle.kept_rows.specs.GtidSets.declared.fault.GtidFault.{GtidFault}
pub use Rattle.kept_rows.specs.GtidSets.declared.interval.Interval.{Interval}
pub use Rattle.kept_rows.specs.OrchBase.Gives.{Gives}
pub use Rattle.kept_rows.specs.OrchBase.Names.{HostPort, IsName, same_name}
unfoldable pub use Rattle.kept_rows.specs.OrchBase.Names.{name_at}
pub use Rattle.kept_rows.specs.OrchBase.Names
pub use Rattle.kept_rows.specs.OrchBase.Words.{cause_name_text, kind_text, rule_text}
pub use Rattle.kept_rows.specs.OrchBase.declared.name.NameFault.{NameFault}
pub use Rattle.kept_rows.specs.OrchBase.declared.recovery.CauseName.{CauseName}
pub use Rattle.kept_rows.specs.OrchBase.declared.recovery.CauseName.TheVariants as cause
pub use Rattle.kept_rows.specs.OrchBase.declared.recovery.Ending.{Ending}
pub use Rattle.kept_rows.specs.OrchBase.declared.recovery.Ending.TheVariants as ending
pub use Rattle.kept_rows.specs.OrchBase.declared.recovery.Kind.{Kind}
pub use Rattle.kept_rows.specs.OrchBase.declared.recovery.Kind.TheVariants as kind
pub use Rattle.kept_rows.specs.OrchBase.declared.rule.Rule.{Rule}
pub use Rattle.kept_rows.specs.OrchBase.declared.rule.Rule.TheVariants as rule
pub use Rattle.kept_rows.specs.OrchBase.declared.server.IoState.{IoState}
pub use Rattle.kept_rows.specs.OrchBase.declared.server.IoState.TheVariants as io
pub use Rattle.kept_rows.specs.OrchBase.declared.server.Moment.{Moment}
pub use Rattle.kept_rows.specs.OrchBase.declared.server.ServerNo.{ServerNo}
pub use Rattle.kept_rows.specs.OrchBase.declared.server.SourceState.{SourceState}
pub use Rattle.kept_rows.specs.OrchBase.declared.server.SourceState.TheVariants as state
pub use Rattle.kept_rows.specs.Ranges.{IsKeyInRange}
pub use Rattle.kept_rows.specs.Rows.{key_of, table_number, table_of}
pub use Rattle.kept_rows.specs.ServerWords.declared.status.Status.{Status}
pub use Rattle.kept_rows.specs.Servers.{are_known, ending_servers, key_servers, servers_of, source_servers}
pub use Rattle.kept_rows.specs.declared.observation.Instance.{Instance}
pub use Rattle.kept_rows.specs.declared.recovery.RecoveryRow.{RecoveryRow}
pub use Rattle.kept_rows.specs.declared.row.Downtime.{Downtime}
pub use Rattle.kept_rows.specs.declared.row.Key.{Key}
pub use Rattle.kept_rows.specs.declared.row.Key.TheVariants as key
pub use Rattle.kept_rows.specs.declared.row.Row.{Row}
pub use Rattle.kept_rows.specs.declared.row.Row.TheVariants as row
pub use Rattle.kept_rows.specs.declared.row.Table.{Table}
pub use Rattle.kept_rows.specs.declared.row.Table.TheVariants as table
pub use Rattle.serde_json.specs.Data.{Data, Items, Members, array, boolean, item, member, no_items, no_members, null, number, object, string}
pub use Rattle.serde_json.specs.Data.{unsigned}
pub use Rattle.serde_json.specs.Find.{as_array, as_bool, as_null, as_number, as_object, as_str, as_u64, at}
pub use Rattle.serde_json.specs.Read.{read}
pub use Rattle.serde_json.specs.View.{members_view, view}
pub use Rattle.serde_json.specs.Written.{compact_text}
