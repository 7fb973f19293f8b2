-- What its proofs cite of others.
pub use Rattle.std.proofs.lemmas.Bool.{cases_lt}
pub use Rattle.std.proofs.lemmas.Bool.Decides.{nat_tests}
pub use Rattle.std.proofs.lemmas.List.{get_or-map, get_or_past, length-map, take_all}
pub use Rattle.std.proofs.lemmas.List.Elements.{All-get_or}
pub use Rattle.std.proofs.lemmas.List.FromFn.{length-map-range_with_len}
pub use Rattle.std.proofs.lemmas.Option.{get_or_from_slice_get, same_Some, slice_get_within}
pub use Rattle.std.proofs.lemmas.Result.{IfOk-weaker}
pub use Rattle.std.specs.List.{list_all}
pub use Rattle.book_views.specs.Forests.{node_at, node_of, source_node}
unfoldable pub use Rattle.book_views.specs.Forests.{book_forest, source_nodes}
pub use Rattle.book_views.specs.Sources.{is_instance, is_replica_of, seen_source, source_in}
pub use Rattle.instance_keeper.proofs.NameOrder.Arranged.{by_name-within}
pub use Rattle.instance_keeper.proofs.NameOrder.ByName.{IsOrder-by_name, length-by_name}
pub use Rattle.instance_keeper.proofs.NameOrder.Placing.{place-of_number, rank-of_place}
pub use Rattle.instance_keeper.specs.Book.{BookState, HasKnownSource, IsBook, instance_at}
pub use Rattle.instance_keeper.specs.OrchBase.declared.server.SourceState.TheVariants.{Attached, Detached, Without}
pub use Rattle.instance_keeper.specs.Prelude.{HostPort, Instance, ServerNo, SourceState, are_known, by_name, rank_of, source_servers}
pub use Rattle.topology_tree.proofs.Computed.{forest-computed}
pub use Rattle.topology_tree.specs.Forests.{IsClosed, IsForestOf}
unfoldable pub use Rattle.topology_tree.specs.Making.{forest_of}
pub use Rattle.topology_tree.specs.Making as making
