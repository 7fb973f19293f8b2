-- What this crate's definitions and contracts cite of others.
pub use Rattle.std.specs.Cmp.Lexicographic.{pointwise}
pub use Rattle.std.specs.Option.{option_to_list}
pub use Rattle.operations.specs.Changes.{change_of, server_of}
pub use Rattle.operations.specs.Commands.declared.cause.Cause.TheVariants as cause
pub use Rattle.operations.specs.Commands.declared.line.Line.TheVariants as line
pub use Rattle.operations.specs.Commands.declared.line.Lost.TheVariants as lost
pub use Rattle.operations.specs.Deeds.{Deed, deed_of}
pub use Rattle.operations.specs.Deeds as deed
pub use Rattle.operations.specs.InstanceKeeper.Book.{BookState, rule_at}
pub use Rattle.operations.specs.InstanceKeeper.Bridges.{has_own, latest_that, ring_at}
pub use Rattle.operations.specs.Jobs.{Job, job_with, seen_of, with_seen}
pub use Rattle.operations.specs.Prelude.{AllAllowed, Ask, Attached, Bridge, Cause, Coord, Detached, Exchange, Line, Moment, Observation, Request}
pub use Rattle.operations.specs.Prelude.{Server, ServerNo, SourceState, Spot, Without, World, same_coord, server_at}
pub use Rattle.operations.specs.ServerModel.Attach.{spot_below}
pub use Rattle.operations.specs.ServerModel.Worlds.{has_source, source_no}
pub use Rattle.operations.specs.ServerWords.declared.attach.Spot.TheVariants as spot
pub use Rattle.operations.specs.ServerWords.declared.changes.Ask.TheVariants as asking
pub use Rattle.operations.specs.Targets.{can_attach, logs_by}
pub use Rattle.operations.specs.Turns.{Attempt, bridge_at, by_deed, crossing_of, ended, is_going, restarts}
pub use Rattle.operations.specs.Turns as attempt
pub use Rattle.operations.specs.declared.op.Aim.TheVariants.{EndOf, ExecOf}
pub use Rattle.operations.specs.declared.op.Crossing.TheVariants as cross
pub use Rattle.operations.specs.declared.op.Op.{Op}
pub use Rattle.operations.specs.declared.op.Op.TheVariants as op
pub use Rattle.operations.specs.declared.sight.Position.{Position}
pub use Rattle.operations.specs.declared.sight.Sight.{Sight}
pub use Rattle.operations.specs.declared.step.JobStep.{JobStep}
pub use Rattle.operations.specs.declared.step.JobStep.TheVariants as step
pub use Rattle.promotion_rules.specs.Choice.{better, is_barred, most_advanced}
pub use Rattle.promotion_rules.specs.Groups.{group_of}
pub use Rattle.promotion_rules.specs.declared.drained.Drained.{Drained}
pub use Rattle.promotion_rules.specs.declared.groups.Group.{Group}
pub use Rattle.promotion_rules.specs.declared.groups.Group.TheVariants as group
