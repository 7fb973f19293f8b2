-- What this crate's definitions and contracts cite of others.
pub use Rattle.std.specs.Io.KnownBytes.{Consumes}
pub use Rattle.command_line.specs.Taken.{IsDrawn}
pub use Rattle.command_line.specs.Usages.{usage_fault}
pub use Rattle.command_line.specs.declared.parts.Drawing.{Drawing}
pub use Rattle.command_line.specs.declared.usage.Usage.{Usage}
pub use Rattle.command_line.specs.declared.usage.Usage.TheVariants.{BadWords}
pub use Rattle.recovery_runs.specs.AuditLog.Apart.{IsApart}
pub use Rattle.recovery_runs.specs.AuditLog.Audits.{closed}
pub use Rattle.recovery_runs.specs.Booking.{RecoveriesBookTheirEnd}
pub use Rattle.recovery_runs.specs.CommandOutcomes.Outcomes.{entries_put}
pub use Rattle.recovery_runs.specs.Commands.declared.refusal.Refusal.{Refusal}
pub use Rattle.recovery_runs.specs.Facts.{ExplainsTurn}
pub use Rattle.recovery_runs.specs.Failing.{RecoveriesFailForWhatBefell}
pub use Rattle.recovery_runs.specs.Finishes.{IsFailure, IsFinish, own_lines, promoted_then, recovery_after, told_hooks}
pub use Rattle.recovery_runs.specs.InstanceKeeper.Leases.{taken}
pub use Rattle.recovery_runs.specs.KeptRows.Rows.{IsRising, row_in}
pub use Rattle.recovery_runs.specs.Knowledge.Knowing.{recovery_job}
pub use Rattle.recovery_runs.specs.Looks.{LooksBefore}
pub use Rattle.recovery_runs.specs.OrchCore.RefusedCommands.{IsAnswer, refusal_at}
pub use Rattle.recovery_runs.specs.OrchCore.Restarts.{interrupted_at}
pub use Rattle.recovery_runs.specs.OrchCore.Runs.{turns_of}
pub use Rattle.recovery_runs.specs.Origins.{Began, ExplainsAlong}
pub use Rattle.recovery_runs.specs.Prelude.{Cause, Docket, Fact, HeldState, HookState, IsEarly, IsExplained, IsQuiet, Line, Recovery, Row, Safe}
pub use Rattle.recovery_runs.specs.Prelude.{Scenario, SoundState, State, Turn, asks, changes_of, engine, job_at, moment_at, reply_of, run_turns}
pub use Rattle.recovery_runs.specs.Prelude.{start, step}
pub use Rattle.recovery_runs.specs.RecoveryCore.Begun.{leases_after}
pub use Rattle.recovery_runs.specs.RunFinishes.{AreScenarios, FailsWell, FinishesWell}
pub use Rattle.recovery_runs.specs.RunLaws.Acting.{ActiveActAlike, HeldLastAMinute, LapsedKeepNothing, PassingRestarts, RenewingClaimsAlone}
pub use Rattle.recovery_runs.specs.RunLaws.Acting.{TakenChangeNothing}
pub use Rattle.recovery_runs.specs.RunLaws.Aims.{IsAimed}
pub use Rattle.recovery_runs.specs.RunLaws.Answering.{IsUnasked, TriesByTable}
pub use Rattle.recovery_runs.specs.RunLaws.Begins.{BeginApartInTurn}
pub use Rattle.recovery_runs.specs.RunLaws.BegunJobs.{BegunJob, begun_of, entry_kept, with_entry}
pub use Rattle.recovery_runs.specs.RunLaws.Claims.{ActsWhereActive, ClaimsWait, IsClaimRow, ItsClaimIsKept, LapsedDoesNothing, OneIsActive}
pub use Rattle.recovery_runs.specs.RunLaws.Claims.{PassingLeavesNewJobs, PassingLeavesNoJob, PassingStartsAgain, claim_key}
pub use Rattle.recovery_runs.specs.RunLaws.Entries.{entries_begun, recoveries_begun, recoveries_scanned}
pub use Rattle.recovery_runs.specs.RunLaws.Failures.{PlansAreDone, PlansFailForWhatBefell, SpendsWaitsLast}
pub use Rattle.recovery_runs.specs.RunLaws.Fates.{AuditIs, RestartKeepsAll}
pub use Rattle.recovery_runs.specs.RunLaws.Hands.{HoldsNone, Returns}
pub use Rattle.recovery_runs.specs.RunLaws.JobEntries.{EntriesHaveJobs}
pub use Rattle.recovery_runs.specs.RunLaws.Jobs.{JobsHaveLeases, JobsLeaveOthers, LeasesNameJobs}
pub use Rattle.recovery_runs.specs.RunLaws.LinesHold.{DoneAsTold}
pub use Rattle.recovery_runs.specs.RunLaws.Lowest.{RefusedByLowest}
pub use Rattle.recovery_runs.specs.RunLaws.Marks.{FoundMatchesEnd, MatchesEnd}
pub use Rattle.recovery_runs.specs.RunLaws.Moments.{JobsRise, NothingIsToCome, PassesTime}
pub use Rattle.recovery_runs.specs.RunLaws.Readings.{DiscoveriesRead, InstancesStay, JobsStore, OpeningsGiveNumbers, PollsRead, PollsStore}
pub use Rattle.recovery_runs.specs.RunLaws.Readings.{ReadingsNeverSink, RestartsCountOn}
pub use Rattle.recovery_runs.specs.RunLaws.Waits.{BegunMayWait, MayWait}
pub use Rattle.recovery_runs.specs.Scenarios.Scenarios.{period_of}
pub use Rattle.recovery_runs.specs.ServerModel.Safe.{Placed}
pub use Rattle.recovery_runs.specs.Turns.declared.reply.Reply.TheVariants as answered
pub use Rattle.recovery_runs.specs.Turns.declared.turn.Act.TheVariants as act
pub use Rattle.recovery_runs.specs.Turns.declared.turn.Turn.TheVariants as turn
pub use Rattle.recovery_runs.specs.TurnsWell.{RecoveriesTurnWell}
pub use Rattle.recovery_runs.specs.UnendedJobs.declared.unended.Unended.TheVariants as unended
unfoldable pub use Rattle.scenario_generator.specs.Texts.{scenario_text}
unfoldable pub use Rattle.scenario_reader.specs.ReadScenarios.{scenario_in}
pub use Rattle.recovery_runs.specs.OrchBase.Gives.{Gives}
pub use Rattle.scenario_reader.specs.ScenarioValues.declared.fault.Fault.{Fault}
pub use Rattle.scenario_reader.specs.ScenarioValues.declared.fault.FaultCode.{FaultCode}
pub use Rattle.scenario_reader.specs.ScenarioValues.declared.fault.FaultCode.TheVariants as code
pub use Rattle.scenario_reader.specs.ScenarioValues.declared.fault.ReadFault.{ReadFault}
pub use Rattle.scenario_reader.specs.ScenarioValues.declared.fault.ReadFault.TheVariants as reading
pub use Rattle.tasks.specs.Asked.{AskOfRead, IsTaken, task_of}
pub use Rattle.tasks.specs.Endings.{HasKeepersCause, IsOn, IsOnOwn, IsOnTurns, IsWritten, Tells, course_of}
pub use Rattle.tasks.specs.Known.{last_held, task_answer}
pub use Rattle.tasks.specs.Prelude.{CommandTurn, IsScenario, Places, Recorded, Rose, drawing_of, names_of, route_of}
unfoldable pub use Rattle.tasks.specs.Prelude.{places_of}
pub use Rattle.tasks.specs.Sinks.{End, Fails, FailsIn, Taken, Takes, TakesFront, TakesLine, across, between}
pub use Rattle.tasks.specs.Works.{Work}
pub use Rattle.tasks.specs.declared.asked.Task.{Task}
pub use Rattle.tasks.specs.declared.ending.Ending.{Ending}
pub use Rattle.tasks.specs.declared.ending.Ending.TheVariants as ends
