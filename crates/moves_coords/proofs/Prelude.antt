-- What its proofs cite of others.
pub use Rattle.std.proofs.lemmas.Result.{IfOk-weaker}
pub use Rattle.moves_coords.specs.Commands.{coords_command}
pub use Rattle.moves_coords.specs.Permits.{by_gtids, case_of, list_of, row_of}
pub use Rattle.moves_coords.specs.Plans.{master_taken, moved_below, moved_up, ops_of, plan_of, replicas_moved_up, repointed, repointed_auto}
pub use Rattle.moves_coords.specs.Plans.{repointed_by, siblings_taken}
pub use Rattle.permission.proofs.Prelude.{BookState, Command, IsBook, ServerNo, about, is_within, option_or, replicas_of, siblings_of, source_of}
pub use Rattle.permission.proofs.Rows.{about-is}
pub use Rattle.permission.proofs.Within.{AllWithin, Within, given-within, or-within, replicas-within, siblings-within, source-within}
pub use Rattle.permission.specs.Commands.declared.kinds.CoordsCommand.{CoordsCommand}
pub use Rattle.permission.specs.Commands.declared.kinds.CoordsCommand.TheVariants as command
pub use Rattle.permission.specs.Commands.declared.line.Line.TheVariants.{Follows}
pub use Rattle.permission.specs.Operations.Named.{are_named}
pub use Rattle.permission.specs.Operations.Plans.{again, auto, swap, under, up}
pub use Rattle.permission.specs.ServerModel.Worlds.{World}
pub use Rattle.permission.specs.Views.{source_above}
pub use Rattle.plan_parts.proofs.Named.{again-named, auto-named, below-test, finished-named, swap-named, under-named, unders-named, up-named}
pub use Rattle.plan_parts.proofs.Named.{ups-named}
pub use Rattle.plan_parts.specs.Parts.{following, unders, ups}
pub use Rattle.std.specs.Option.{option_to_list}
pub use Rattle.permission.proofs.Free.{neither}
pub use Rattle.permission.proofs.Within.{cons-within, none-within, option-within}
pub use Rattle.permission.specs.Checks.{busy, first_refusal}
pub use Rattle.permission.specs.Lists.{first_about}
