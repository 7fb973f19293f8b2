-- What this crate's definitions and contracts cite of others.
pub use Rattle.std.specs.Cmp.Lexicographic.{pointwise}
pub use Rattle.std.specs.List.{list_all, list_any}
pub use Rattle.binlog_coords.specs.Log.{Log, coord_after, file_start, flush, is_at_or_before, is_before, opened, place, push}
pub use Rattle.binlog_coords.specs.OrchBase.Chains.{Grounded}
pub use Rattle.binlog_coords.specs.OrchBase.Histories.{count_own, holds, same_txn}
pub use Rattle.binlog_coords.specs.OrchBase.Names.{same_name}
pub use Rattle.binlog_coords.specs.OrchBase.declared.server.ServerNo.{ServerNo}
pub use Rattle.binlog_coords.specs.OrchBase.declared.server.Txn.{Txn}
pub use Rattle.binlog_coords.specs.declared.Coord.{Coord}
