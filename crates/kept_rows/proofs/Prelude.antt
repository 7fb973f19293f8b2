-- What its proofs cite of others.
pub use Rattle.std.proofs.Math.Seq.{drop-cons}
pub use Rattle.std.proofs.lemmas.Bool.{cases_lt, false≢true, ltb-false, ltb-true}
pub use Rattle.std.proofs.lemmas.Bool.Decides.{nat_tests}
pub use Rattle.std.proofs.lemmas.Grind.{common_steps}
pub use Rattle.std.proofs.lemmas.List.{append_assoc, get_or-drop, get_or-take, length-take-le, take-append-drop}
pub use Rattle.std.proofs.lemmas.List.Elements.{All-append, All-cons, All-head, All-nil, All-tail, All-weaker, at_read, filter-append, filter_passes}
pub use Rattle.std.proofs.lemmas.List.Folds.{find-append}
pub use Rattle.std.proofs.lemmas.List.Kept.{AllPairs-cons, AllPairs-filter}
pub use Rattle.std.proofs.lemmas.List.Sorted.{answers_always}
pub use Rattle.std.specs.Bool.{OnTrue}
pub use Rattle.std.specs.List.{AllAdjacentBelow, AllPairs, AllWithin, HoldsAt, IsAllAdjacentAnswer, slice_set}
pub use Rattle.std.specs.Option.{option_or}
pub use Rattle.kept_rows.specs.Ranges.{IsKeyInRange}
pub use Rattle.kept_rows.specs.Recoveries.{as_recovery, as_row}
pub use Rattle.kept_rows.specs.Rows.{IsRising, changed, changed_by, key_number, key_of, last_at, map_of, row_after, row_at, row_in, rows_before}
pub use Rattle.kept_rows.specs.Rows.{rows_behind, sort_key, sort_key_of, table_number, table_of}
unfoldable pub use Rattle.kept_rows.specs.Rows.{put, remove}
pub use Rattle.kept_rows.specs.Same.{same_bool, same_coord, same_end, same_instance, same_interval, same_io, same_log, same_place, same_seen}
pub use Rattle.kept_rows.specs.Same.{same_set, same_source, same_threads}
pub use Rattle.kept_rows.specs.Servers.{are_known}
pub use Rattle.kept_rows.specs.SortKeys.{IsFirstFrom, at}
pub use Rattle.kept_rows.specs.declared.observation.Instance.{Instance}
pub use Rattle.kept_rows.specs.declared.recovery.Recovery.{Recovery}
pub use Rattle.kept_rows.specs.declared.recovery.RecoveryRow.{RecoveryRow}
pub use Rattle.kept_rows.specs.declared.row.Change.{Change}
pub use Rattle.kept_rows.specs.declared.row.Change.TheVariants as change
pub use Rattle.kept_rows.specs.declared.row.Key.{Key}
pub use Rattle.kept_rows.specs.declared.row.Key.TheVariants as key
pub use Rattle.kept_rows.specs.declared.row.Row.{Row}
pub use Rattle.kept_rows.specs.declared.row.Row.TheVariants as row
pub use Rattle.kept_rows.specs.declared.row.SortKey.{SortKey}
pub use Rattle.kept_rows.specs.declared.row.Table.{Table}
pub use Rattle.kept_rows.specs.declared.row.Table.TheVariants as table
pub use Rattle.server_words.proofs.BinlogCoords.Places.{same_coord-refl, same_coord-true}
pub use Rattle.server_words.specs.BinlogCoords.declared.Coord.{Coord}
pub use Rattle.server_words.specs.GtidSets.declared.interval.Interval.{Interval}
pub use Rattle.server_words.specs.OrchBase.declared.server.IoState.{IoState}
pub use Rattle.server_words.specs.OrchBase.declared.server.IoState.TheVariants as io
pub use Rattle.server_words.specs.OrchBase.declared.server.Moment.{Moment}
pub use Rattle.server_words.specs.OrchBase.declared.server.ServerNo.{ServerNo}
pub use Rattle.server_words.specs.OrchBase.declared.server.SourceState.{SourceState}
pub use Rattle.server_words.specs.OrchBase.declared.server.SourceState.TheVariants as source
pub use Rattle.server_words.specs.declared.status.Status.{Status}
