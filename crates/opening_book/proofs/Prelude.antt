-- What its proofs cite of others.
pub use Rattle.std.proofs.Math.Seq.{drop-length, take-length}
pub use Rattle.std.proofs.lemmas.Bool.{eq-eqb, false≢true, le-leb, leb-true, ne_eqb}
pub use Rattle.std.proofs.lemmas.Fn.{filter_same}
pub use Rattle.std.proofs.lemmas.Grind.{common_steps}
pub use Rattle.std.proofs.lemmas.List.{length-drop, length-map, length-set, length-take, take_more}
pub use Rattle.std.proofs.lemmas.List.Elements.{All-append, All-cons, All-filter, All-head, All-map, All-nil, All-replicate, All-set, All-tail}
pub use Rattle.std.proofs.lemmas.List.Elements.{All-weaker, filter_map-append, filter_passes}
pub use Rattle.std.proofs.lemmas.List.Kept.{AllPairs-filter}
pub use Rattle.std.proofs.lemmas.List.Quantifiers.{position-Some}
pub use Rattle.std.proofs.lemmas.List.Sums.{fails_before_first, fold-append}
pub use Rattle.std.proofs.lemmas.Option.{same_Some}
pub use Rattle.std.specs.List.{position_or_len}
pub use Rattle.audit_log.proofs.Changes.{IsAudit-map, none-at}
pub use Rattle.audit_log.proofs.Kept.{acknowledged-block, acknowledged-id, interrupted-block, interrupted-id}
pub use Rattle.audit_log.proofs.Loaded.{kept-audit}
pub use Rattle.audit_log.specs.Audits.{acknowledged_for, ended_so, interrupted, is_new, is_of, is_unended}
pub use Rattle.audit_log.specs.Loading.{recovery_row_in}
pub use Rattle.instance_keeper.proofs.BookLaws.{book_change, book_put}
pub use Rattle.instance_keeper.proofs.Books.{change_is, empty_is}
pub use Rattle.instance_keeper.proofs.KeptRows.Known.{both_true, head_known}
pub use Rattle.instance_keeper.proofs.KeptRows.Lists.{pairs_head, pairs_tail}
pub use Rattle.instance_keeper.proofs.KeptRows.LookUps.{changed_by_rising, map_of_rising, row_in-changed, row_in-changed_by, row_in-map_of}
pub use Rattle.instance_keeper.proofs.KeptRows.LookUps.{row_in-put}
pub use Rattle.instance_keeper.proofs.KeptRows.Recoveries.{kept-back}
pub use Rattle.instance_keeper.proofs.KeptRows.Rising.{map_of-risen}
pub use Rattle.instance_keeper.proofs.NoRecovery.{above, no_recovery, row_in-elsewhere}
pub use Rattle.instance_keeper.specs.Book.{after_row, empty_book, shown_by}
pub use Rattle.instance_keeper.specs.Bridges.{ring_at, ringed, with_bridge}
pub use Rattle.instance_keeper.specs.Had.{has_row}
pub use Rattle.instance_keeper.specs.KeptRows.Ranges.{IsKeyInRange}
pub use Rattle.instance_keeper.specs.KeptRows.Rows.{key_number, key_of, row_after, rows_before, rows_behind, sort_key, sort_key_of}
unfoldable pub use Rattle.instance_keeper.specs.KeptRows.Rows.{put}
pub use Rattle.instance_keeper.specs.KeptRows.Servers.{ending_servers}
pub use Rattle.instance_keeper.specs.KeptRows.declared.recovery.RecoveryRow.{RecoveryRow}
pub use Rattle.instance_keeper.specs.KeptRows.declared.row.Change.TheVariants as change
pub use Rattle.instance_keeper.specs.KeptRows.declared.row.Key.TheVariants as key
pub use Rattle.instance_keeper.specs.KeptRows.declared.row.Row.TheVariants as row
pub use Rattle.instance_keeper.specs.KeptRows.declared.row.Table.TheVariants as table
pub use Rattle.instance_keeper.specs.OrchBase.declared.recovery.Ending.TheVariants as ending
pub use Rattle.instance_keeper.specs.Prelude.{HostPort, Key, ServerNo, Status, Table, key_servers, source_servers}
pub use Rattle.instance_keeper.specs.declared.bridge.Bridge.{Bridge}
pub use Rattle.opening_book.specs.Audits.{audit_of, id_in, is_instance, last_id, later_id, latest_recovery}
pub use Rattle.opening_book.specs.Counting.{counted, counts, greatest, greatest_id, is_block_in_range, is_end_in_range, is_in_range, last_read}
pub use Rattle.opening_book.specs.Counting.{later_read, latest, loaded}
pub use Rattle.opening_book.specs.Following.{Follow, FollowAudit, IsAudited, IsIdInRange, IsKeptFor, is_for_book}
pub use Rattle.opening_book.specs.Opening.{after_first, after_opening, block_given, blocks_given, changes_from, interrupting, is_opening_change}
pub use Rattle.opening_book.specs.Opening.{loading, missing, missing_from, opened_book, opening_changes, opening_instance, put_instance, registered}
pub use Rattle.opening_book.specs.Opening.{registering, registering_from}
pub use Rattle.opening_book.specs.Prelude.{AuditState, BookState, Change, Instance, IsAudit, IsBook, IsInRange, IsRising, Moment, Recovery, Row, Rule}
pub use Rattle.opening_book.specs.Prelude.{Server, Settings, World, acking, acknowledged, after_addition, after_change, after_put, after_removal}
pub use Rattle.opening_book.specs.Prelude.{are_known, as_row, book_rows, changed, changed_by, closed, closing, cons_option, fits, is_of_book}
pub use Rattle.opening_book.specs.Prelude.{list_all, loaded_by, longest_block, map_of, option_to_list, position, put_recovery, recoveries_in}
pub use Rattle.opening_book.specs.Prelude.{recovery_at, row_fits, row_in, server_at, servers_of, shown_of}
pub use Rattle.opening_book.specs.Reads.{AreReadWithin}
pub use Rattle.server_model.specs.Desk.{can_reach}
