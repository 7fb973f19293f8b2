-- What its proofs cite of others.
pub use Rattle.std.proofs.lemmas.Bool.{eq-eqb, eqb-true}
pub use Rattle.std.proofs.lemmas.List.Elements.{All-append, All-head, All-tail}
pub use Rattle.std.proofs.lemmas.Option.{same_Some}
pub use Rattle.std.proofs.lemmas.Result.{IfOk-weaker}
pub use Rattle.permission.proofs.BookViews.Reading.{placed-within}
pub use Rattle.permission.proofs.Rows.{about-is}
pub use Rattle.permission.proofs.Within.{AllWithin, Within, but-within, cons-within, given-within, none-within, option-within, replicas-within}
pub use Rattle.permission.specs.BookViews.Forests.{node_at, server_at}
unfoldable pub use Rattle.permission.specs.BookViews.Forests.{book_forest}
pub use Rattle.permission.specs.Commands.declared.kinds.PathCommand.TheVariants as command
unfoldable pub use Rattle.permission.specs.NameOrder.NameOrder.{by_name}
pub use Rattle.permission.specs.TopologyTree.Forests.{above}
pub use Rattle.plan_parts.proofs.Named.{again-named, autos-named, finished-named, joined-named, under-named, up-named}
pub use Rattle.regroup.specs.Commands.{regroup_command}
pub use Rattle.regroup.specs.Permits.{case_of, last_row_of, own_refusal, refusal_about, row_of, without_path}
pub use Rattle.regroup.specs.Plans.{arrived, ascended, climbed, moved_by, next_of, ops_of, plan_of, relocated, travelled}
pub use Rattle.regroup.specs.Prelude.{BookState, Case, Check, Command, PathCommand, Refusal, ServerNo, World, about, are_named, attached_of}
pub use Rattle.regroup.specs.Prelude.{first_about, first_refusal, flat_map, following, is_given, is_within, option_or, option_to_list, parent_of}
pub use Rattle.regroup.specs.Prelude.{permitted, replicas_but, source_of, under, up}
pub use Rattle.regroup.specs.Ways.{Path, crossed_in, parent_at, passed_in, path_beside, path_by, path_of, path_to, way_above, way_in, way_on, way_up}
pub use Rattle.permission.specs.BookViews.Sources.{replicas_of}
pub use Rattle.permission.proofs.Free.{neither}
pub use Rattle.permission.specs.Checks.{busy}
pub use Rattle.regroup.specs.Permits.{list_of, moving_list, passed_by, relocate_row, replicas_row}
