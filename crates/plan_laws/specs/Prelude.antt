-- What this crate's definitions and contracts cite of others.
pub use Rattle.std.specs.declared.cmp.Ordering.TheVariants.{Equal}
pub use Rattle.plan_lines.specs.Branches.{is_refused, recovery_lines, way_of, wins}
pub use Rattle.plan_lines.specs.Courses.{Course, Done, Event, Follows, Missed, Place, ground_at}
pub use Rattle.plan_lines.specs.Expected.{expected, expected_at}
pub use Rattle.plan_lines.specs.PlanTexts.declared.line.Line.TheVariants as line
pub use Rattle.plan_lines.specs.Prelude.{BookState, Coord, Ground, Line, Lot, Means, Op, Purpose, ServerNo, Stopped, Way, before, better_of, but}
pub use Rattle.plan_lines.specs.Prelude.{chosen_of, instance_at, is_before, is_valid, lot_by, move, replicas_of, without_stopped}
pub use Rattle.plan_lines.specs.PromotionRules.Choice.{server_order}
pub use Rattle.plan_lines.specs.Takeovers.{takeover_lines}
pub use Rattle.run_laws.specs.BegunJobs.{BegunJob, begun_of}
pub use Rattle.run_laws.specs.Operations.Jobs.{Job}
pub use Rattle.run_laws.specs.Operations.declared.op.Op.TheVariants as op
pub use Rattle.run_laws.specs.OrchCore.States.{IsState}
pub use Rattle.run_laws.specs.RecoveryPlans.Beginning.{begun_recovery, is_takeover}
pub use Rattle.run_laws.specs.RecoveryPlans.Deciding.{follower_of, stopped_in, way_below}
pub use Rattle.run_laws.specs.RecoveryPlans.Deciding as lot
pub use Rattle.run_laws.specs.RecoveryPlans.Moves.{IsNext}
pub use Rattle.run_laws.specs.RecoveryPlans.Recoveries.{Recovery}
pub use Rattle.run_laws.specs.RecoveryPlans.Whys as why
pub use Rattle.run_laws.specs.RecoveryPlans.declared.means.Means.TheVariants as means
pub use Rattle.run_laws.specs.RecoveryPlans.declared.outcome.LostReplica.{LostReplica}
pub use Rattle.run_laws.specs.RecoveryPlans.declared.purpose.Purpose.TheVariants as purpose
pub use Rattle.run_laws.specs.RecoveryPlans.declared.stage.Stage.TheVariants as stage
pub use Rattle.run_laws.specs.RecoveryPlans.declared.task.Task.{Task}
pub use Rattle.run_laws.specs.RecoveryPlans.declared.task.Task.TheVariants as task
pub use Rattle.run_laws.specs.RecoveryPlans.declared.task.Way.TheVariants as way
pub use Rattle.run_laws.specs.UnendedJobs.declared.docket.Docket.{Docket}
pub use Rattle.run_laws.specs.UnendedJobs.declared.unended.Unended.TheVariants as unended
pub use Rattle.tasks.specs.Plans.{Planned, begun_state, ground_in, lasting, means_of, straight}
pub use Rattle.tasks.specs.Prelude.{CommandTurn, HostPort, State, Unended, has_branches, recovery_plan, route_of, straight_lines}
pub use Rattle.tasks.specs.Report.{told_plan}
unfoldable pub use Rattle.tasks.specs.Report.{plan_answer}
