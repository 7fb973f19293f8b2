-- What its proofs cite of others.
pub use Rattle.std.proofs.lemmas.Bool.{eq-eqb, eqb-true, false≢true, or_left, or_right}
pub use Rattle.std.proofs.lemmas.List.Elements.{All-append, All-cons, All-filter, All-head, All-nil, All-tail}
pub use Rattle.std.proofs.lemmas.List.Folds.{list_any-append}
pub use Rattle.std.proofs.lemmas.Map.Views.{any-filter_same}
pub use Rattle.std.specs.List.{list_any, range_with_len}
pub use Rattle.std.specs.Option.{option_to_list}
pub use Rattle.book_views.proofs.Nodes.{length-forest, rank-below}
pub use Rattle.book_views.proofs.Prelude.{IsBook, are_known, by_name-within, is_replica_of, nat_tests, source_servers}
pub use Rattle.book_views.proofs.Reading.{known-below, source-known}
pub use Rattle.operations.proofs.GtidSets.Inserts.{IsSet-with_pair, Rises-set, holds-with_pair}
pub use Rattle.operations.proofs.GtidSets.SameSets.{same_sets_lem}
pub use Rattle.operations.proofs.OrchBase.Chains.{reached-follows}
pub use Rattle.operations.proofs.Sets.{decided, holds-within, within-holds}
pub use Rattle.operations.specs.Commands.Turns.{is_within}
pub use Rattle.operations.specs.GtidSets.Sets.{IsInterval, IsSet, largest}
pub use Rattle.operations.specs.InstanceKeeper.Leases.{first_busy}
pub use Rattle.operations.specs.InstanceKeeper.Leases
unfoldable pub use Rattle.operations.specs.NameOrder.NameOrder.{by_name}
pub use Rattle.operations.specs.OrchBase.Chains.{is_reached_on}
pub use Rattle.operations.specs.Turns
pub use Rattle.permission.specs.Checks.{busy, busy_by, errant, is_given, of_below, of_lower_version, of_other_cluster, of_same_id, place_purged}
pub use Rattle.permission.specs.Checks.{refusal_by, set_purged, unknown_in, unlogged, unreached, without_log}
pub use Rattle.permission.specs.Errants.{numbers_missing, numbers_of, set_with}
unfoldable pub use Rattle.permission.specs.Errants.{own_missing}
pub use Rattle.permission.specs.Lists.{first_about, moves_to}
pub use Rattle.permission.specs.Prelude.{Attached, BookState, Command, Detached, Interval, Refusal, ServerNo, SourceState, Without, above, flat_map}
pub use Rattle.permission.specs.Prelude.{holds, instance_at, is_reached, lease_at, node_at, numbers, option_or, replicas_of, seen_source, source_in}
pub use Rattle.permission.specs.Prelude.{with_pair}
unfoldable pub use Rattle.permission.specs.Prelude.{book_forest}
pub use Rattle.permission.specs.Replicas.{replicas_but, siblings_of, siblings_under}
pub use Rattle.permission.specs.Rows.{about, about_one, refused}
pub use Rattle.permission.specs.Views.{source_above, source_of}
pub use Rattle.topology_tree.proofs.Levels.{level-above, level-below}
unfoldable pub use Rattle.topology_tree.proofs.Levels.{level}
pub use Rattle.topology_tree.specs.Following.{Direct, Follows, Further}
pub use Rattle.topology_tree.specs.Links.{IsForest}
