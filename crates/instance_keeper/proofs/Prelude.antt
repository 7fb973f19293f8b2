-- What its proofs cite of others.
pub use Rattle.std.proofs.Math.Seq.{take-append_seam}
pub use Rattle.std.proofs.lemmas.Bool.{leb-false, leb-true}
pub use Rattle.std.proofs.lemmas.List.{drop-set-lt, length-map, length-replicate, length-set}
pub use Rattle.std.proofs.lemmas.List.Elements.{All-replicate, All-set, filter_map-append}
pub use Rattle.std.proofs.lemmas.List.Sums.{fold_more}
pub use Rattle.std.proofs.lemmas.List.FromFn.{get_or-map-range_with_len, length-map-range_with_len}
pub use Rattle.std.proofs.lemmas.Option.{slice_get-get_or}
pub use Rattle.std.specs.Cmp.Lexicographic.{same_text}
pub use Rattle.std.specs.Option.{option_copied_mut, option_flatten}
pub use Rattle.indexmap.specs.IndexMap.{insert_entry, set_value_at}
pub use Rattle.instance_keeper.specs.Book.{BookState, HasKnownSource, IsBook, IsNumbered, after_change, after_put, after_removal, after_row}
pub use Rattle.instance_keeper.specs.Book.{book_rows, empty_book, instance_at, names_of, renewal, renewed}
pub use Rattle.instance_keeper.specs.Bridges.{has_exec, has_own, latest_that, over}
pub use Rattle.instance_keeper.specs.Counts.{CountsUp}
pub use Rattle.instance_keeper.specs.Had.{had, has_row, same_candidate, same_downtime, same_rule}
pub use Rattle.instance_keeper.specs.Leases.{first_busy, freed, taken}
pub use Rattle.instance_keeper.specs.Prelude.{Candidate, Change, Downtime, HostPort, Instance, IsInRange, IsOrder, IsRising, Key, Moment, Observation}
pub use Rattle.instance_keeper.specs.Prelude.{Row, Rule, ServerNo, Settings, Status, Table, are_known, changed_by, fits, key_servers}
pub use Rattle.instance_keeper.specs.Prelude.{observed_servers, option_to_list, pointwise, rank_of, ranks_of, row_at, row_fits, same_bool}
pub use Rattle.instance_keeper.specs.Prelude.{same_instance, source_servers, values}
unfoldable pub use Rattle.instance_keeper.specs.Prelude.{by_name}
pub use Rattle.instance_keeper.specs.Reloads.{first_of, first_set, place_from}
pub use Rattle.instance_keeper.specs.declared.bridge.Bridge.{Bridge}
pub use Rattle.kept_rows.proofs.Known.{both_true, head_known, rest_known}
pub use Rattle.kept_rows.proofs.Lists.{pairs_append, set_parts}
pub use Rattle.kept_rows.proofs.Prelude.{All-append, All-cons, All-head, All-nil, All-tail, All-weaker, AllPairs, AllPairs-cons, IsKeyInRange}
pub use Rattle.kept_rows.proofs.Prelude.{drop-cons, false≢true, length-take-le, nat_tests, row_in, slice_set, sort_key, sort_key_of, take-append-drop}
unfoldable pub use Rattle.kept_rows.proofs.Prelude.{put, remove}
pub use Rattle.kept_rows.proofs.Same.{bool_is, eq_is, eq_refl, instance_is, instance_refl, moment_eta, no_is}
pub use Rattle.kept_rows.proofs.SortKeys.{put_middle, remove_middle}
pub use Rattle.kept_rows.specs.OrchBase.declared.rule.Rule.TheVariants as rule
pub use Rattle.kept_rows.specs.Servers.{is_of_book, seen_servers}
pub use Rattle.kept_rows.specs.declared.row.Change.TheVariants as change
pub use Rattle.kept_rows.specs.declared.row.Key.TheVariants as key
pub use Rattle.kept_rows.specs.declared.row.Row.TheVariants as row
pub use Rattle.kept_rows.specs.declared.row.Table.TheVariants as table
pub use Rattle.name_order.proofs.Arranged.{by_name-within}
pub use Rattle.name_order.proofs.ByName.{IsOrder-by_name, length-by_name}
