-- What this crate's definitions and contracts cite of others.
pub use Rattle.permission.specs.BookViews.Forests.{parent_of}
pub use Rattle.permission.specs.Candidates.{without_candidate}
pub use Rattle.permission.specs.Checks.{Case, first_refusal, is_given, permit_fault, permitted}
pub use Rattle.permission.specs.Commands.Routes.{planner_of, route_of}
pub use Rattle.permission.specs.Commands.Turns.{is_within}
pub use Rattle.permission.specs.Commands.declared.kinds.PathCommand.{PathCommand}
pub use Rattle.permission.specs.Commands.declared.kinds.PathCommand.TheVariants as command
pub use Rattle.permission.specs.Commands.declared.name.CommandName.{CommandName}
pub use Rattle.permission.specs.Commands.declared.refusal.Refusal.TheVariants.{NoPath}
pub use Rattle.permission.specs.Commands.declared.route.Planner.{Planner}
pub use Rattle.permission.specs.Commands.declared.route.Planner.TheVariants as planner
pub use Rattle.permission.specs.Lists.{first_about, only_if}
pub use Rattle.permission.specs.Operations.Named.{are_named}
pub use Rattle.permission.specs.Operations.Plans.{again, finished, under, up}
pub use Rattle.permission.specs.Operations.declared.op.Op.{Op}
pub use Rattle.permission.specs.OrchBase.declared.server.Moment.{Moment}
pub use Rattle.permission.specs.Prelude.{BookState, Command, Gives, Refusal, ServerNo, World, book_forest, flat_map, option_or, option_to_list}
pub use Rattle.permission.specs.Prelude.{replicas_of}
pub use Rattle.permission.specs.Replicas.{replicas_but}
pub use Rattle.permission.specs.Rows.{about, going_by, moving, refused}
pub use Rattle.permission.specs.Views.{attached_of, source_of}
pub use Rattle.permission.specs.declared.case.Check.{Check}
pub use Rattle.permission.specs.declared.case.Check.TheVariants.{AlreadyDetached, Below, Busy, DestNotLogging, Errant, GtidOff, NoSource}
pub use Rattle.permission.specs.declared.case.Check.TheVariants.{OtherCluster, PurgedPlace, PurgedSet, SameInstance, SameServerId, Unreachable}
pub use Rattle.permission.specs.declared.case.Check.TheVariants.{VersionLower}
pub use Rattle.permission.specs.declared.case.Lead.{Lead}
pub use Rattle.permission.specs.declared.case.Lead.TheVariants as lead
pub use Rattle.plan_parts.specs.Parts.{autos, following}
