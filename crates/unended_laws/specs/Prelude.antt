-- What this crate's definitions and contracts cite of others.
pub use Rattle.std.specs.List.{list_any}
pub use Rattle.std.specs.Option.{option_map}
pub use Rattle.recovery_covers.specs.Chains.{IsChain}
pub use Rattle.recovery_covers.specs.Covers.{AreReplicas, HasOnePlace, IsTold, crowns, times}
pub use Rattle.recovery_covers.specs.Doing.{DecidesOverAll, MakesWell}
pub use Rattle.recovery_covers.specs.JobLaws.Flights.{Flight, Held, Sound, leased_to}
pub use Rattle.recovery_covers.specs.JobLaws.Passages.{AllMayPass, AllPassWell, Beginning, Discovering, Exchanging, Forgetting, MayPass, Passage}
pub use Rattle.recovery_covers.specs.JobLaws.Passages.{PassesWell, Polling, Restarting, Storing, Taking, Turning, passed, passing}
pub use Rattle.recovery_covers.specs.Kept.{IsBeginning, Keeps, KeptByChosen, SameAim}
pub use Rattle.recovery_covers.specs.Prelude.{IsFree, IsLeased, LeasedRecovery, Leases, Outcome, after, is_outside}
pub use Rattle.recovery_covers.specs.RecoveryLaws.HeldRecoveries.{NamesLogging}
pub use Rattle.recovery_covers.specs.RecoveryLaws.Passing.{as_turn}
pub use Rattle.recovery_covers.specs.RecoveryLaws.Rings.{AreOwn}
pub use Rattle.recovery_covers.specs.RecoveryLaws.SoundRecoveries.{SoundRecovery}
pub use Rattle.recovery_covers.specs.RecoveryLaws.Standing.{attached_no}
pub use Rattle.recovery_covers.specs.SoFar.{CoversSoFar}
pub use Rattle.recovery_reasons.specs.Asking.{Speaks}
pub use Rattle.recovery_reasons.specs.Attaching.{attachment_by}
pub use Rattle.recovery_reasons.specs.Prelude.{Ask, BookState, Bridge, Coord, Decisions, Deed, Exchange, Ground, HeldRecovery, IsAny, Job, Line, Means}
pub use Rattle.recovery_reasons.specs.Prelude.{Moment, Observation, Position, Purpose, Server, ServerNo, Sight, Spot, Stage, Taken, Task, Way, World}
pub use Rattle.recovery_reasons.specs.Prelude.{attach_answer_of, begun_recovery, deed_of, ground_of, is_going, is_takeover, match_found, run, seen_of}
pub use Rattle.recovery_reasons.specs.Prelude.{server_at, server_of, tail_of, taken}
pub use Rattle.recovery_reasons.specs.Reasons.{ExplainsTruly, Fact, IsExplained, IsGivenUp, IsOfDead, IsPassed, IsYetToStart}
pub use Rattle.recovery_reasons.specs.Undoing.{closed_at}
pub use Rattle.unended_jobs.specs.HookTexts.declared.hooks.Hooks.{Hooks}
pub use Rattle.unended_jobs.specs.Hooked.{hooked, promoted_in}
pub use Rattle.unended_jobs.specs.Jobs.{job_at, jobs_turned}
pub use Rattle.unended_jobs.specs.Operations.Deeds as deed
pub use Rattle.unended_jobs.specs.Operations.declared.matching.Match.{Match}
pub use Rattle.unended_jobs.specs.Operations.declared.op.Op.TheVariants as op
pub use Rattle.unended_jobs.specs.Operations.declared.step.JobStep.TheVariants as step
pub use Rattle.unended_jobs.specs.OrchBase.declared.server.SourceState.TheVariants.{Without}
pub use Rattle.unended_jobs.specs.RecoveryPlans.Named.{IsListOf, IsNamedRecovery}
pub use Rattle.unended_jobs.specs.RecoveryPlans.Stages.{gather}
pub use Rattle.unended_jobs.specs.RecoveryPlans.declared.purpose.Purpose.TheVariants as purpose
pub use Rattle.unended_jobs.specs.RecoveryPlans.declared.stage.Stage.TheVariants as stage
pub use Rattle.unended_jobs.specs.RecoveryPlans.declared.task.Task.TheVariants as task
pub use Rattle.unended_jobs.specs.RecoveryPlans.declared.task.Way.TheVariants as way
pub use Rattle.unended_jobs.specs.ServerModel.Exchanges.{is_attached}
pub use Rattle.unended_jobs.specs.ServerModel.Run as model
pub use Rattle.unended_jobs.specs.ServerModel.Safe.{IsQuiet, Safe}
pub use Rattle.unended_jobs.specs.ServerModel.Worlds.{source_no}
pub use Rattle.unended_jobs.specs.ServerWords.declared.attach.AttachFault.TheVariants as attaching
pub use Rattle.unended_jobs.specs.ServerWords.declared.attach.Spot.TheVariants as spot
pub use Rattle.unended_jobs.specs.ServerWords.declared.changes.Ask.TheVariants as asking
pub use Rattle.unended_jobs.specs.Unended.{core_of, flown, number_of}
pub use Rattle.unended_jobs.specs.declared.docket.Docket.{Docket}
pub use Rattle.unended_jobs.specs.declared.unended.Unended.{Unended}
pub use Rattle.unended_jobs.specs.declared.unended.Unended.TheVariants.{Recovery}
pub use Rattle.unended_jobs.specs.declared.unended.Unended.TheVariants as unended
