-- What this crate's definitions and contracts cite of others.
pub use Rattle.recovery_laws.specs.Commands.declared.line.Line.{Line}
pub use Rattle.recovery_laws.specs.Commands.declared.line.Line.TheVariants as line
pub use Rattle.recovery_laws.specs.HeldRecoveries.{HeldRecovery}
pub use Rattle.recovery_laws.specs.LeasedRecoveries.{LeasedRecovery}
pub use Rattle.recovery_laws.specs.Operations.Changes.{server_of}
pub use Rattle.recovery_laws.specs.Operations.declared.step.JobStep.TheVariants as step
pub use Rattle.recovery_laws.specs.Prelude.{AllAllowed, BookState, Bridge, Exchange, IsLeased, Leases, Means, Moment, Placed, Purpose, Recovery}
pub use Rattle.recovery_laws.specs.Prelude.{ServerNo, Stage, Stopped, Task, World, begun_recovery, first_source, ground_of, info, is_going, run}
pub use Rattle.recovery_laws.specs.Prelude.{taken}
pub use Rattle.recovery_laws.specs.RecoveryPlans.Beginning.{is_master, is_takeover}
pub use Rattle.recovery_laws.specs.RecoveryPlans.Deciding.{Ground, expels}
pub use Rattle.recovery_laws.specs.RecoveryPlans.Moves.{Decisions, IsNext}
pub use Rattle.recovery_laws.specs.RecoveryPlans.Recoveries.{Outcome}
pub use Rattle.recovery_laws.specs.RecoveryPlans.Stages.{tail_of, target}
pub use Rattle.recovery_laws.specs.RecoveryPlans.Standings.{Standing}
pub use Rattle.recovery_laws.specs.RecoveryPlans.Standings as standing
pub use Rattle.recovery_laws.specs.RecoveryPlans.Telling.{result_lines, told_by, told_why}
pub use Rattle.recovery_laws.specs.RecoveryPlans.declared.outcome.Follower.{Follower}
pub use Rattle.recovery_laws.specs.RecoveryPlans.declared.outcome.LostReplica.{LostReplica}
pub use Rattle.recovery_laws.specs.RecoveryPlans.declared.purpose.Purpose.TheVariants as purpose
pub use Rattle.recovery_laws.specs.RecoveryPlans.declared.stage.Stage.TheVariants as stage
pub use Rattle.recovery_laws.specs.RecoveryPlans.declared.task.Task.TheVariants as task
pub use Rattle.recovery_laws.specs.RecoveryPlans.declared.task.Way.TheVariants as way
pub use Rattle.recovery_laws.specs.Rings.{HeldRings, SoundRings}
pub use Rattle.recovery_laws.specs.ServerModel.Run.{Allowed, after}
pub use Rattle.recovery_laws.specs.ServerModel.Run as model
pub use Rattle.recovery_laws.specs.ServerWords.declared.changes.Ask.{Ask}
pub use Rattle.recovery_laws.specs.ServerWords.declared.changes.Ask.TheVariants as asking
pub use Rattle.recovery_laws.specs.Standing.{IsApart, IsFree, IsRuling, IsSourced, IsSourcedAsSeen, IsUnder, Reads, is_outside}
