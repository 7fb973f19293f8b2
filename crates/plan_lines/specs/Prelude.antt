-- What this crate's definitions and contracts cite of others.
pub use Rattle.std.specs.Option.{option_map, option_to_list}
pub use Rattle.permission.specs.Prelude.{BookState, Coord, Instance, ServerNo, flat_map, instance_at, replicas_of}
pub use Rattle.permission.specs.Views.{is_auto, is_valid}
pub use Rattle.plan_texts.specs.declared.line.Apart.{Apart}
pub use Rattle.plan_texts.specs.declared.line.Apart.TheVariants as apart
pub use Rattle.plan_texts.specs.declared.line.Expect.{Expect}
pub use Rattle.plan_texts.specs.declared.line.Expect.TheVariants as expect
pub use Rattle.plan_texts.specs.declared.line.Line.{Line}
pub use Rattle.plan_texts.specs.declared.line.Line.TheVariants as line
pub use Rattle.recovery_parts.specs.Grounds.{ground_by}
pub use Rattle.recovery_parts.specs.Lots.{by_lot}
pub use Rattle.recovery_plans.specs.Beginning.{begun_recovery, but}
pub use Rattle.recovery_plans.specs.BinlogCoords.Log.{is_before}
pub use Rattle.recovery_plans.specs.Deciding.{Ground, Lot, better_of, chosen_of, expels, logs_at, lot_by, releases, without_stopped}
pub use Rattle.recovery_plans.specs.Deciding as lot
pub use Rattle.recovery_plans.specs.Operations.declared.op.Crossing.TheVariants as cross
pub use Rattle.recovery_plans.specs.Operations.declared.op.Op.TheVariants as op
pub use Rattle.recovery_plans.specs.Prelude.{Bridge, Op, has_own, latest_that, ring_at, same_coord}
pub use Rattle.recovery_plans.specs.ServerWords.declared.status.Status.{Status}
pub use Rattle.recovery_plans.specs.Stages.{before, drain, gather, level, move, trail}
pub use Rattle.recovery_plans.specs.Whys as whys
pub use Rattle.recovery_plans.specs.declared.means.Means.{Means}
pub use Rattle.recovery_plans.specs.declared.outcome.Follower.{Follower}
pub use Rattle.recovery_plans.specs.declared.outcome.Stopped.{Stopped}
pub use Rattle.recovery_plans.specs.declared.purpose.Purpose.{Purpose}
pub use Rattle.recovery_plans.specs.declared.purpose.Purpose.TheVariants as purpose
pub use Rattle.recovery_plans.specs.declared.task.Way.{Way}
pub use Rattle.recovery_plans.specs.declared.task.Way.TheVariants as way
