-- What its proofs cite of others.
pub use Rattle.std.proofs.lemmas.Bool.{eqb-false, false≢true, not_from_false, not_from_true}
pub use Rattle.std.proofs.lemmas.Grind.{common_steps}
pub use Rattle.std.proofs.lemmas.List.{get_or_default}
pub use Rattle.std.proofs.lemmas.List.Folds.{list_any-append}
pub use Rattle.std.proofs.lemmas.List.Sums.{get_or-le-sum_by, sum_by-take-le}
pub use Rattle.std.proofs.lemmas.Option.{gets, slice_get_read, unwrap_or-slice_get}
pub use Rattle.binlog_coords.specs.OrchBase.Histories.{holds}
pub use Rattle.opening_checks.specs.Checks.{InRange, server_of, without}
pub use Rattle.opening_checks.specs.KinTable.{CountsHome, IsOfServers, IsTable, Lists, StandsAt, agrees_at, agrees_in, agrees_throughout}
pub use Rattle.opening_checks.specs.KinTable.{agrees_where, alike, before_at, extended, is_counted, link_of, lists_any, row_at, with_link, with_links}
pub use Rattle.opening_checks.specs.Places.{FilesGood}
pub use Rattle.opening_checks.specs.Prelude.{BadPlace, Coord, Flaw, Index, IsListed, Log, Part, ServerInit, ServerNo, Txn, at_server, bad_coords}
pub use Rattle.opening_checks.specs.Prelude.{bad_coords_in, bad_files, bad_flushes, bad_purged, below_itself, coord_after, count_own, exec_of}
pub use Rattle.opening_checks.specs.Prelude.{falls_or_passes, first_met, history_at, is_kin, links, list_all, listed_history, log_at, not_kin}
pub use Rattle.opening_checks.specs.Prelude.{opening, parts_of, same_before, transactions}
pub use Rattle.opening_checks.specs.ServerTests.{met_by}
pub use Rattle.opening_checks.specs.SourceLogs.{AreLogs}
pub use Rattle.opening_checks.specs.Values.{bad_coords_under, bad_exec, bad_exec_in, coord_value, coord_value_in, coord_value_under, elsewhere}
pub use Rattle.opening_checks.specs.Values.{first_bad_flush, first_elsewhere, flush_value, place_value, value_at, value_in}
pub use Rattle.opening_checks.specs.declared.fault.FlawedValue.{FlawedValue}
pub use Rattle.opening_checks.specs.declared.fault.FlawedValue.TheVariants as value
pub use Rattle.opening_checks.specs.declared.kin_row.Link.{Link}
pub use Rattle.openings.proofs.Files.{log_at-files}
pub use Rattle.openings.proofs.Joined.{count_own-push, take-listed, tick}
pub use Rattle.openings.proofs.ListedCounts.{IsNumbered, listed_numbered}
pub use Rattle.openings.proofs.Members.{get-push, get-push_old}
pub use Rattle.openings.proofs.Prelude.{HasSize, IfOk-weaker, IsPart, agrees_with, all_below, and_from, and_parts, at_source, cases_Bool, cases_eq}
pub use Rattle.openings.proofs.Prelude.{cases_order, count_at, drop_more, eq-eqb, eqb-true, get_or-set_other, get_or-set_same, get_or_from_slice_get}
pub use Rattle.openings.proofs.Prelude.{histories_agree, is_home, is_reached, is_reached_on, joined_by, length-set, links_agree, list_any, log_in}
pub use Rattle.openings.proofs.Prelude.{nat_tests, ne_eqb, next_txn, number_of, or_cases, or_left, or_parts, or_right, parts_at, read_of, root_of}
pub use Rattle.openings.proofs.Prelude.{same_Some, same_txn, singles, slice_get-get_or, slice_get_within, sources, take-take, take_more}
pub use Rattle.openings.proofs.Sizes.{history_at-sized, joined-listed, listed-all}
pub use Rattle.openings.specs.Kin.{links_after}
pub use Rattle.openings.specs.Servers.{exec_in, exec_under, log_by, read_in}
