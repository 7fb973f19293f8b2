-- What its proofs cite of others.
pub use Rattle.std.proofs.lemmas.Result.{IfOk-weaker}
pub use Rattle.permission.proofs.Rows.{about-is}
pub use Rattle.permission.proofs.Within.{AllWithin, but-within, given-within}
pub use Rattle.permission.specs.Checks.{Case, busy, first_refusal, permitted}
pub use Rattle.permission.specs.Commands.Turns.{is_within}
pub use Rattle.permission.specs.Commands.declared.kinds.MatchCommand.{MatchCommand}
pub use Rattle.permission.specs.Commands.declared.kinds.MatchCommand.TheVariants as command
pub use Rattle.permission.specs.Commands.declared.line.Line.TheVariants.{Follows}
pub use Rattle.permission.specs.Operations.Named.{are_named}
pub use Rattle.permission.specs.Prelude.{BookState, Command, Refusal, ServerNo, World, option_or}
pub use Rattle.permission.specs.Replicas.{replicas_but}
pub use Rattle.permission.specs.Rows.{about}
pub use Rattle.permission.specs.Views.{source_above, source_of}
pub use Rattle.permission.specs.declared.case.Check.{Check}
pub use Rattle.plan_parts.proofs.Named.{finished-named, matching-named, matchings-named}
pub use Rattle.plan_parts.specs.Parts.{following, matching, matchings}
pub use Rattle.pseudo_match.specs.Commands.{pseudo_command}
pub use Rattle.pseudo_match.specs.Permits.{case_of, list_of, own_refusal, refusal_about, row_of, sources_over}
pub use Rattle.pseudo_match.specs.Plans.{moved, ops_of, plan_of, replicas_moved}
pub use Rattle.std.proofs.lemmas.List.Elements.{All-append}
pub use Rattle.std.specs.Option.{option_to_list}
pub use Rattle.permission.specs.BookViews.Sources.{replicas_of}
pub use Rattle.permission.specs.InstanceKeeper.Book.{IsBook}
pub use Rattle.permission.proofs.Free.{neither}
pub use Rattle.permission.proofs.Within.{Within, above-within, cons-within, option-within, replicas-within, source-within}
pub use Rattle.permission.specs.Lists.{first_about}
