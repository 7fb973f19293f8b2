-- What this crate's definitions and contracts cite of others.
pub use Rattle.std.specs.Option.{option_map}
pub use Rattle.recovery_covers.specs.Chains.{IsChain}
pub use Rattle.recovery_covers.specs.Covers.{crowns}
pub use Rattle.recovery_covers.specs.Doing.{DecidesOverAll, MakesWell}
pub use Rattle.recovery_covers.specs.Kept.{IsBeginning, Keeps, SameAim}
pub use Rattle.recovery_covers.specs.RecoveryLaws.Standing.{attached_no}
pub use Rattle.recovery_covers.specs.Told.{IsToldOf}
pub use Rattle.recovery_reasons.specs.Asking.{AsksAsDue}
pub use Rattle.recovery_reasons.specs.Attaching.{AttachesAsSent, IsTriedNow}
pub use Rattle.recovery_reasons.specs.Causes.{IsTrueOf}
pub use Rattle.recovery_reasons.specs.Changing.{IsIts}
pub use Rattle.recovery_reasons.specs.Fatal.{CanEnd}
pub use Rattle.recovery_reasons.specs.Nobody.{HasNobody}
pub use Rattle.recovery_reasons.specs.OnWay.{AllFit}
pub use Rattle.recovery_reasons.specs.Prelude.{Decisions, Recovery, Way, fate, is_going, server_of, spoken_to, taken}
pub use Rattle.recovery_reasons.specs.Reasons.{ExplainsTruly, Fact, IsExplained, IsOfDead}
pub use Rattle.recovery_reasons.specs.Undoing.{KeepsHands, OpensAgain, StartsHands}
pub use Rattle.recovery_reasons.specs.Waiting.{BeginsWhole, WaitsItsTurns}
pub use Rattle.run_laws.specs.AuditLog.Audits.{recovery_at}
pub use Rattle.run_laws.specs.CommandOutcomes.HookTelling.{told_of}
pub use Rattle.run_laws.specs.CommandOutcomes.Outcomes.{Outcome}
pub use Rattle.run_laws.specs.Commands.declared.cause.Cause.TheVariants as cause
pub use Rattle.run_laws.specs.Flights.{flight_of, moment_at}
pub use Rattle.run_laws.specs.HookTexts.declared.hooks.Hook.{Hook}
pub use Rattle.run_laws.specs.KeptRows.declared.recovery.Recovery as KeptRows
pub use Rattle.run_laws.specs.Knowledge.Knowing.{updated}
pub use Rattle.run_laws.specs.Operations.Deeds as deed
pub use Rattle.run_laws.specs.Operations.declared.op.Op.TheVariants as op
pub use Rattle.run_laws.specs.Operations.declared.step.JobStep.TheVariants as jobstep
pub use Rattle.run_laws.specs.OrchBase.Names.{HostPort}
pub use Rattle.run_laws.specs.OrchBase.declared.code.Code.{Code}
pub use Rattle.run_laws.specs.OrchBase.declared.recovery.Ending.TheVariants as ending
pub use Rattle.run_laws.specs.OrchBase.declared.server.SourceState.TheVariants.{Without}
pub use Rattle.run_laws.specs.OrchCore.Polls.{command_outcome, scan_outcome}
pub use Rattle.run_laws.specs.OrchCore.Settling.{known_of}
pub use Rattle.run_laws.specs.Prelude.{Act, AreReplicas, Befell, BookState, Cause, Failure, Instance, IsQuiet, IsTurn, JobStep, Line, Moment}
pub use Rattle.run_laws.specs.Prelude.{Observation, Op, Purpose, Row, Safe, Scenario, ServerNo, State, Status, Taken, Turn, Unended, World, act_in}
pub use Rattle.run_laws.specs.Prelude.{asks, changes_of, decided, deed_of, engine, front_hook, ground_of, hooked, instance_at, is_takeover, job_at}
pub use Rattle.run_laws.specs.Prelude.{label_at, next_count, number_of, put_recovery, replicas_of, reply_of, run_turns, seen_in, start, status, step}
pub use Rattle.run_laws.specs.Readings.{NumbersAreGiven, deed_in}
pub use Rattle.run_laws.specs.Ready.{Ready}
pub use Rattle.run_laws.specs.RecoveryCore.Begun.{IsFresh}
pub use Rattle.run_laws.specs.RecoveryCore.Checks.{code_at}
pub use Rattle.run_laws.specs.RecoveryCovers.Covers.{HasOnePlace, IsTold, owed, times}
pub use Rattle.run_laws.specs.RecoveryHooks.Runs.{HookState, Passes, begun_hooks, done_lines, due_before, unsuccessful_lines}
pub use Rattle.run_laws.specs.RecoveryPlans.Beginning.{first_source}
pub use Rattle.run_laws.specs.RecoveryPlans.Moves.{Stops}
pub use Rattle.run_laws.specs.RecoveryPlans.Taking as taking
pub use Rattle.run_laws.specs.RecoveryPlans.declared.purpose.Purpose.TheVariants as purpose
pub use Rattle.run_laws.specs.RecoveryPlans.declared.stage.Stage.TheVariants as stage
pub use Rattle.run_laws.specs.Runs.{ComesTo, InEveryState}
pub use Rattle.run_laws.specs.Scenarios.Aliases.{alias_of}
pub use Rattle.run_laws.specs.ServerModel.Worlds.{has_source}
pub use Rattle.run_laws.specs.SingleTurns.{TurnKeeps, WhereHeld, WhereReady, WhereSound}
pub use Rattle.run_laws.specs.States.{HeldState, SoundState}
pub use Rattle.run_laws.specs.Turns.declared.reply.Reply.TheVariants as answered
pub use Rattle.run_laws.specs.Turns.declared.turn.Act.TheVariants as act
pub use Rattle.run_laws.specs.Turns.declared.turn.Turn.TheVariants as turn
pub use Rattle.run_laws.specs.UnendedJobs.Hooked.{Hooked, promoted_in}
pub use Rattle.run_laws.specs.UnendedJobs.declared.docket.Docket.{Docket}
pub use Rattle.run_laws.specs.UnendedJobs.declared.unended.Unended.TheVariants as unended
pub use Rattle.run_laws.specs.UnendedLaws.CoveredBeside.{IsAimedBeside}
pub use Rattle.run_laws.specs.UnendedLaws.CoveredFlights.{AimedJobs, CoveredJobs, KeptJobs, SpeakingJobs}
pub use Rattle.run_laws.specs.UnendedLaws.Tended.{IsEarly, IsOfDocket, IsTended, all_before, all_behind}
pub use Rattle.run_laws.specs.UnendedLaws.Turns.{IsNamedOutcome}
pub use Rattle.run_laws.specs.UnendedLaws.Upkeep.{ClosesFirst, IsNeverInterfered, KeepsUp, OpensAlone, SparesItsMaster, UpJobs}
