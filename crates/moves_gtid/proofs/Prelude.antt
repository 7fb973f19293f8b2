-- What its proofs cite of others.
pub use Rattle.std.proofs.lemmas.Result.{IfOk-weaker}
pub use Rattle.moves_gtid.specs.Commands.{gtid_command}
pub use Rattle.moves_gtid.specs.Plans.{disabled, enabled, moved, ops_of, plan_of, replicas_moved}
pub use Rattle.permission.proofs.Prelude.{BookState, Command, IsBook, ServerNo, about, is_within, replicas_but, source_of}
pub use Rattle.permission.proofs.Rows.{about-is}
pub use Rattle.permission.proofs.Within.{AllWithin, Within, but-within, cons-within, given-within, none-within, option-within, source-within}
pub use Rattle.permission.specs.Commands.declared.kinds.GtidCommand.{GtidCommand}
pub use Rattle.permission.specs.Commands.declared.kinds.GtidCommand.TheVariants as command
pub use Rattle.permission.specs.Commands.declared.line.Line.TheVariants.{Follows, Server}
pub use Rattle.permission.specs.Operations.Named.{are_named}
pub use Rattle.permission.specs.Operations.Plans.{again, auto}
pub use Rattle.permission.specs.ServerModel.Worlds.{World}
pub use Rattle.plan_parts.proofs.Named.{again-named, again_auto-named, auto-named, autos-named, finished-named}
pub use Rattle.plan_parts.specs.Parts.{again_auto, autos, following}
pub use Rattle.std.proofs.lemmas.List.Elements.{All-append}
pub use Rattle.std.specs.Option.{option_to_list}
pub use Rattle.moves_gtid.specs.Permits.{case_of, list_of, row_of}
pub use Rattle.permission.proofs.Free.{neither}
pub use Rattle.permission.specs.Checks.{busy, first_refusal}
pub use Rattle.permission.specs.Lists.{first_about}
