-- What this crate's definitions and contracts cite of others.
pub use Rattle.std.specs.Cmp.Lexicographic.{pointwise}
pub use Rattle.std.specs.List.{flat_map, list_any}
pub use Rattle.std.specs.Option.{option_copied, option_or, option_to_list}
pub use Rattle.book_views.specs.Forests.{IsBelow, node_at}
unfoldable pub use Rattle.book_views.specs.Forests.{book_forest}
pub use Rattle.book_views.specs.Sources.{is_instance, replicas_of, seen_source, source_in}
pub use Rattle.operations.specs.Commands.Unknown.{unknown_of}
pub use Rattle.operations.specs.Commands.declared.refusal.Refusal.{Refusal}
pub use Rattle.operations.specs.Commands.declared.refusal.Refusal.TheVariants as refusal
pub use Rattle.operations.specs.Commands.declared.turn.Command.{Command}
pub use Rattle.operations.specs.GtidSets.Adding.{with_pair}
pub use Rattle.operations.specs.GtidSets.Pairs.{numbers}
pub use Rattle.operations.specs.InstanceKeeper.Book.{BookState, instance_at, lease_at, rule_at}
pub use Rattle.operations.specs.KeptRows.declared.observation.Instance.{Instance}
pub use Rattle.operations.specs.OrchBase.Chains.{is_reached}
pub use Rattle.operations.specs.OrchBase.Gives.{Gives}
pub use Rattle.operations.specs.OrchBase.declared.server.Version.{Version}
pub use Rattle.operations.specs.Prelude.{Attached, Coord, Detached, Interval, Server, ServerNo, SourceState, Without, World, holds, option_and_then}
pub use Rattle.operations.specs.Prelude.{server_at}
pub use Rattle.operations.specs.Turns.{is_within}
pub use Rattle.promotion_rules.specs.Choice.{is_barred}
pub use Rattle.topology_tree.specs.Forests.{above}
