-- What this crate's definitions and contracts cite of others.
pub use Rattle.std.specs.Cmp.Lexicographic.{pointwise}
pub use Rattle.std.specs.List.{All}
pub use Rattle.std.specs.Option.{option_copied, option_to_list}
pub use Rattle.kept_rows.specs.BinlogCoords.declared.Coord.{Coord}
pub use Rattle.circular_buffer.specs.Buffer.{keep_last, last_item}
pub use Rattle.indexmap.specs.IndexMap.{values}
pub use Rattle.kept_rows.specs.Ranges.{IsInRange}
pub use Rattle.kept_rows.specs.Rows.{IsRising, changed_by, row_at}
pub use Rattle.kept_rows.specs.Same.{same_bool, same_coord, same_instance}
pub use Rattle.kept_rows.specs.Servers.{are_known, fits, key_servers, observed_servers, row_fits, servers_of, source_servers}
pub use Rattle.kept_rows.specs.declared.observation.Instance.{Instance}
pub use Rattle.kept_rows.specs.declared.observation.Observation.{Observation}
pub use Rattle.kept_rows.specs.declared.row.Candidate.{Candidate}
pub use Rattle.kept_rows.specs.declared.row.Change.{Change}
pub use Rattle.kept_rows.specs.declared.row.Change.TheVariants as change
pub use Rattle.kept_rows.specs.declared.row.Downtime.{Downtime}
pub use Rattle.kept_rows.specs.declared.row.Key.{Key}
pub use Rattle.kept_rows.specs.declared.row.Key.TheVariants as key
pub use Rattle.kept_rows.specs.declared.row.Row.{Row}
pub use Rattle.kept_rows.specs.declared.row.Row.TheVariants as row
pub use Rattle.kept_rows.specs.declared.row.Table.{Table}
pub use Rattle.kept_rows.specs.declared.row.Table.TheVariants as table
pub use Rattle.name_order.specs.NameOrder.{IsOrder, rank_of, ranks_of}
unfoldable pub use Rattle.name_order.specs.NameOrder.{by_name}
pub use Rattle.kept_rows.specs.OrchBase.Names.{HostPort}
pub use Rattle.kept_rows.specs.OrchBase.declared.rule.Rule.{Rule}
pub use Rattle.kept_rows.specs.OrchBase.declared.rule.Rule.TheVariants as rule
pub use Rattle.kept_rows.specs.OrchBase.declared.server.Moment.{Moment}
pub use Rattle.kept_rows.specs.OrchBase.declared.server.ServerNo.{ServerNo}
pub use Rattle.kept_rows.specs.OrchBase.declared.server.Settings.{Settings}
pub use Rattle.kept_rows.specs.OrchBase.declared.server.SourceState.{SourceState}
pub use Rattle.kept_rows.specs.OrchBase.declared.server.SourceState.TheVariants as source
pub use Rattle.kept_rows.specs.ServerWords.declared.status.Status.{Status}
