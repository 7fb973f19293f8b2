-- What this crate's definitions and contracts cite of others.
pub use Rattle.std.specs.Cmp.Lexicographic.{slice_cmp}
pub use Rattle.std.specs.List.{flat_map, range_with_len}
pub use Rattle.std.specs.Ordering.{nat_cmp}
pub use Rattle.book_views.specs.Forests.{server_at}
unfoldable pub use Rattle.book_views.specs.Forests.{book_forest}
pub use Rattle.book_views.specs.Sources.{is_instance, label_at, replicas_of, seen_source}
pub use Rattle.commands.specs.Routes.{route_of}
pub use Rattle.commands.specs.Turns.{is_within}
pub use Rattle.commands.specs.Unknown.{unknown_of}
pub use Rattle.commands.specs.declared.line.Line.{Line}
pub use Rattle.commands.specs.declared.line.Line.TheVariants as line
pub use Rattle.commands.specs.declared.line.RecoveryLine.{RecoveryLine}
pub use Rattle.commands.specs.declared.line.StateWord.{StateWord}
pub use Rattle.commands.specs.declared.line.StateWord.TheVariants as state
pub use Rattle.commands.specs.declared.name.CommandName.{CommandName}
pub use Rattle.commands.specs.declared.refusal.Refusal.{Refusal}
pub use Rattle.commands.specs.declared.route.Question.{Question}
pub use Rattle.commands.specs.declared.route.Question.TheVariants.{AllInstances, Analysis, Clusters, Find, Recoveries, Switch, Topology, WhichCluster}
pub use Rattle.commands.specs.declared.route.Question.TheVariants.{WhichClusterInstances, WhichMaster, WhichReplicas}
pub use Rattle.commands.specs.declared.route.Route.{Route}
pub use Rattle.commands.specs.declared.route.Route.TheVariants.{Asks, Begins, Decides, Discovers, Forgets, Recovers, TakesOver}
pub use Rattle.commands.specs.declared.turn.Command.{Command}
pub use Rattle.commands.specs.declared.turn.CommandTurn.{CommandTurn}
pub use Rattle.commands.specs.declared.turn.Found.{Found}
unfoldable pub use Rattle.failure_analysis.specs.Analysis.{analysis}
pub use Rattle.failure_analysis.specs.declared.entry.Entry.{Entry}
pub use Rattle.instance_keeper.specs.Book.{BookState, instance_at}
pub use Rattle.instance_keeper.specs.KeptRows.declared.recovery.Recovery.{Recovery}
pub use Rattle.instance_keeper.specs.NameOrder.Sorts.{sort_by}
pub use Rattle.instance_keeper.specs.OrchBase.Gives.{Gives}
pub use Rattle.instance_keeper.specs.OrchBase.declared.code.Code.{Code}
pub use Rattle.instance_keeper.specs.OrchBase.declared.code.Code.TheVariants as code
pub use Rattle.instance_keeper.specs.OrchBase.declared.server.IoState.{IoState}
pub use Rattle.instance_keeper.specs.OrchBase.declared.server.IoState.TheVariants.{Connecting, No, Yes}
pub use Rattle.instance_keeper.specs.OrchBase.declared.server.SourceState.TheVariants.{Attached, Detached, Without}
pub use Rattle.instance_keeper.specs.OrchBase.declared.server.Version.{Version}
pub use Rattle.instance_keeper.specs.Prelude.{Instance, ServerNo, Settings, SourceState, by_name, option_to_list, pointwise}
pub use Rattle.topology_tree.specs.Forests.{above, walk_of}
