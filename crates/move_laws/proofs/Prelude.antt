-- What its proofs cite of others.
pub use Rattle.std.proofs.lemmas.Bool.{leb-true, ltb-false, ltb-true, or_left}
pub use Rattle.std.proofs.lemmas.List.{append-nil, drop-append-le, get_or-map, length-append, reverse-reverse}
pub use Rattle.std.proofs.lemmas.List.Elements.{All-get_or, All-map, Contains-append_right, Contains-get_or}
pub use Rattle.std.proofs.lemmas.List.Folds.{list_any-append}
pub use Rattle.std.proofs.lemmas.List.FromFn.{get_or-range_with_len, length-range_with_len}
pub use Rattle.std.proofs.lemmas.List.Kept.{AllPairs-cons}
pub use Rattle.std.proofs.lemmas.List.Sorted.{All-permutation, IsPermutation-sym}
pub use Rattle.std.proofs.lemmas.List.Sums.{fold-append}
pub use Rattle.std.proofs.lemmas.Option.{slice_get-get_or}
pub use Rattle.std.specs.Cmp.{IsTotalOrder}
pub use Rattle.std.specs.Cmp.Lexicographic.{nat_list_eq_equiv, on_texts, same_text, texts_ties}
pub use Rattle.std.specs.List.Sorted.{IsSortedBy}
pub use Rattle.std.specs.Option.{option_and_then}
pub use Rattle.std.specs.Ordering.{is_eq, is_lt, ordering_reverse}
pub use Rattle.std.specs.declared.cmp.Ordering.{Ordering}
pub use Rattle.std.specs.declared.cmp.Ordering.TheVariants.{Equal, Greater}
pub use Rattle.asking_commands.specs.Labels.{each_once, is_again, labels_of}
pub use Rattle.asking_commands.specs.Prelude.{Version, above, instance_at, option_to_list, pointwise, range_with_len, seen_source, sort_by}
pub use Rattle.job_laws.proofs.Matching.{each-matched, finished-matched, matched-append}
pub use Rattle.job_laws.proofs.Planned.{again-held, any-true, auto-held, finished-held, held-append, swap-held, under-held, up-held}
pub use Rattle.job_laws.proofs.Prelude.{All-cons, All-head, All-nil, All-tail, All-weaker, Attached, Detached, Footing, Matched, SameBase, Settings}
pub use Rattle.job_laws.proofs.Prelude.{SourceState, Without, and_parts, are_held, are_listed, are_matched, both, change_of, eq-eqb, eqb-true}
pub use Rattle.job_laws.proofs.Prelude.{false≢true, filter_passes, footing, is_in, keep_last, list_any, logs_at, logs_by, matched_in, nat_tests}
pub use Rattle.job_laws.proofs.Prelude.{not-true, reverse-append, ring_size, same_Some}
pub use Rattle.move_laws.specs.ByKept.{AllGoByKept, GoesByKept, IsPlaceKept, IsSetKept}
pub use Rattle.move_laws.specs.Clusters.{IsBefore, IsLabelled, ListsEachOnce}
pub use Rattle.move_laws.specs.Given.{given}
pub use Rattle.move_laws.specs.Latest.{IsClosed, IsLastBlock, IsLatest}
pub use Rattle.move_laws.specs.Lowest.{IsAnswer, IsNoLower, action_checks, code_checks, coords_checks, gtid_checks, match_checks, own_checks}
pub use Rattle.move_laws.specs.Lowest.{path_checks, recovery_checks, row_checks, takeover_checks}
pub use Rattle.move_laws.specs.Numbers.{rises_from}
pub use Rattle.move_laws.specs.Prelude.{Action, Attempt, AuditState, Begins, BookState, Bridge, Case, Check, Code, Command, CoordsCommand, Deed}
pub use Rattle.move_laws.specs.Prelude.{Entry, Finish, Follows, GtidCommand, IntermediateRecovery, IsBook, IsFree, IsHeldBack, Job, Less, Line}
pub use Rattle.move_laws.specs.Prelude.{MasterRecovery, MatchCommand, Moment, Nothing, Op, Path, PathCommand, PurgedPlace, PurgedSet, Recovery}
pub use Rattle.move_laws.specs.Prelude.{Refusal, Server, ServerNo, World, about, action_of, actionable_in, again, again_auto, arrived, attached_of}
pub use Rattle.move_laws.specs.Prelude.{auto, autos, by_gtids, check_number, code_at, coords_command, deed_of, downtimed, exec_seen, filtered}
pub use Rattle.move_laws.specs.Prelude.{finished, first_refusal, first_seen, flat_map, following, gtid_command, held_back, is_below, is_given}
pub use Rattle.move_laws.specs.Prelude.{is_instance, is_same, is_unended, job_with, label_at, last_item, last_row_of, latest_that, leases_of}
pub use Rattle.move_laws.specs.Prelude.{matching, matchings, may_begin, nat_cmp, no_master, no_replica, number_of, only_if, parent_at, passed_in}
pub use Rattle.move_laws.specs.Prelude.{path_of, plan_of, pseudo_command, purged_seen, refusal_by, refusal_of, regroup_command, replicas_but}
pub use Rattle.move_laws.specs.Prelude.{replicas_of, row_of, scanned, server_at, set_seen, siblings_of, slice_cmp, source_of, swap, travelled, under}
pub use Rattle.move_laws.specs.Prelude.{unders, unknown_in, up, ups, way_up, with_bridge, without_candidate, without_successor}
unfoldable pub use Rattle.move_laws.specs.Prelude.{clusters_of}
pub use Rattle.move_laws.specs.Settings.{SameSettings}
pub use Rattle.move_laws.specs.Tries.{AreTries, IsRefusedTry, Left, Scan, checks_at}
pub use Rattle.move_laws.specs.Ways.{Climbs, GoesUp, is_on_way, is_under, is_under_in}
pub use Rattle.moves_coords.specs.Permits as coords_permits
pub use Rattle.moves_coords.specs.Plans.{master_taken, moved_below, moved_up, replicas_moved_up, repointed, repointed_auto, repointed_by}
pub use Rattle.moves_coords.specs.Plans.{siblings_taken}
pub use Rattle.moves_coords.specs.Plans as coords_plans
pub use Rattle.moves_gtid.specs.Permits.{case_of, list_of, refusal_about}
pub use Rattle.moves_gtid.specs.Permits as gtid_permits
pub use Rattle.moves_gtid.specs.Plans.{disabled, enabled, ops_of, replicas_moved}
pub use Rattle.moves_gtid.specs.Plans as gtid_plans
pub use Rattle.pseudo_match.specs.Permits.{marks_row, moved_row, rest_refusal, row_refusal, sources_over}
pub use Rattle.pseudo_match.specs.Permits
pub use Rattle.pseudo_match.specs.Plans.{moved}
pub use Rattle.pseudo_match.specs.Plans
pub use Rattle.recovery_core.proofs.AuditLog.Finding.{All-reverse, none-passes}
pub use Rattle.recovery_core.proofs.BookViews.Nodes.{length-forest, length-nodes, nodes-closed}
pub use Rattle.recovery_core.proofs.BookViews.Reading.{known-below, source-known}
pub use Rattle.recovery_core.proofs.NameOrder.Arranged.{by_name-within}
pub use Rattle.recovery_core.proofs.NameOrder.ByName.{IsOrder-by_name, length-by_name}
pub use Rattle.recovery_core.proofs.NameOrder.Placing.{place-of_number, rank-of_place}
pub use Rattle.recovery_core.proofs.NameOrder.Sorting.{first_of_sorted, rest_of_sorted, sorted_is_sorted, sorted_permutes}
pub use Rattle.recovery_core.proofs.OperationsProofs.Sets.{within-holds}
pub use Rattle.recovery_core.proofs.TopologyTree.Computed.{IsForestOf-computed}
pub use Rattle.recovery_core.specs.AuditLog.Audits.{held_by, is_blocking, is_of, last_blocking, unended_of}
pub use Rattle.recovery_core.specs.AuditLog.declared.held.Held.TheVariants as held
pub use Rattle.recovery_core.specs.BookViews.Forests.{node_at, node_of, parent_of, source_node}
unfoldable pub use Rattle.recovery_core.specs.BookViews.Forests.{source_nodes}
pub use Rattle.recovery_core.specs.BookViews.Sources.{is_attached_to, source_in}
pub use Rattle.recovery_core.specs.Checks.{can_succeed, has_successor, refused_as}
pub use Rattle.recovery_core.specs.Checks
pub use Rattle.recovery_core.specs.Commands.Unknown.{is_unknown}
pub use Rattle.recovery_core.specs.Commands.declared.kinds.CoordsCommand.TheVariants as command
pub use Rattle.recovery_core.specs.Commands.declared.kinds.GtidCommand.TheVariants as gtids
pub use Rattle.recovery_core.specs.Commands.declared.kinds.MatchCommand.TheVariants as pseudocommand
pub use Rattle.recovery_core.specs.Commands.declared.kinds.PathCommand.TheVariants as path
pub use Rattle.recovery_core.specs.Commands.declared.line.Line.TheVariants as line
pub use Rattle.recovery_core.specs.Commands.declared.name.CommandName.TheVariants as name
pub use Rattle.recovery_core.specs.Commands.declared.refusal.Refusal.TheVariants as refusal
pub use Rattle.recovery_core.specs.GtidSets.declared.interval.Interval.{Interval}
pub use Rattle.recovery_core.specs.InstanceKeeper.Book.{lease_at, rule_at}
pub use Rattle.recovery_core.specs.NameOrder.NameOrder.{rank_of}
pub use Rattle.recovery_core.specs.Operations.Deeds as deed
pub use Rattle.recovery_core.specs.Operations.Turns.{is_within}
pub use Rattle.recovery_core.specs.Operations.declared.op.Crossing.TheVariants as cross
pub use Rattle.recovery_core.specs.Operations.declared.op.Op.TheVariants as op
pub use Rattle.recovery_core.specs.OrchBase.Chains.{is_reached, is_reached_on}
pub use Rattle.recovery_core.specs.Permission.Candidates.{is_candidate}
pub use Rattle.recovery_core.specs.Permission.Candidates
pub use Rattle.recovery_core.specs.Permission.Checks.{are_one, busy, is_known, of_same_id, place_purged, purged_under, set_purged, without_log}
unfoldable pub use Rattle.recovery_core.specs.Permission.Errants.{own_missing}
pub use Rattle.recovery_core.specs.Permission.Rows.{about_one, going_by, in_order, is_first, moving, refused}
pub use Rattle.recovery_core.specs.Permission.Views.{attached_in, id_in, is_attached_in, is_auto, is_detached_in, is_lower, label_in, logs_in}
pub use Rattle.recovery_core.specs.Permission.Views.{lower_version, same_id, source_above, uuid_in, uuid_of, version_in}
pub use Rattle.recovery_core.specs.Permission.declared.case.Check.TheVariants as check
pub use Rattle.recovery_core.specs.Permission.declared.case.Move.{Move}
pub use Rattle.recovery_core.specs.Prelude.{Held, are_known, busy_by, downtime_at, first_about, first_of, has_candidate, has_log, is_replica_of}
pub use Rattle.recovery_core.specs.Prelude.{is_valid, moves_to, option_or, same_label, source_servers}
unfoldable pub use Rattle.recovery_core.specs.Prelude.{book_forest, by_name}
pub use Rattle.recovery_core.specs.PromotionRules.Choice.{is_barred}
pub use Rattle.recovery_core.specs.Recoveries as recovery
pub use Rattle.recovery_core.specs.Scans.{Staged, after_try, from_start, scan_step, scanned_over, staged_refusal}
pub use Rattle.recovery_core.specs.ServerModel.declared.server.Server as ServerModel
pub use Rattle.recovery_core.specs.Takeovers as takeover
pub use Rattle.recovery_core.specs.TopologyTree.Forests.{IsForestOf}
unfoldable pub use Rattle.recovery_core.specs.TopologyTree.Making.{forest_of}
pub use Rattle.recovery_core.specs.Tries.{recovery_begins, unless_refused}
pub use Rattle.regroup.proofs.Climbing.{passed-of}
pub use Rattle.regroup.specs.Permits.{astray, crossed_by, last_refusal, moving_list, own_refusal, passed_by, places_row, relocate_row, replicas_row}
pub use Rattle.regroup.specs.Permits.{without_path}
pub use Rattle.regroup.specs.Permits as paths
pub use Rattle.regroup.specs.Plans.{ascended, climbed, moved_by, next_of, relocated}
pub use Rattle.regroup.specs.Plans as path_plans
pub use Rattle.regroup.specs.Ways.{crossed_in, crossed_on, path_beside, path_by, path_to, way_above, way_in, way_on}
