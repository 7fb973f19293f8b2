-- What this crate's definitions and contracts cite of others.
pub use Rattle.std.specs.Option.{option_map}
pub use Rattle.knowledge.specs.AskingCommands.Answers.{unknown_in}
pub use Rattle.knowledge.specs.AuditLog.Audits.{is_unended}
pub use Rattle.knowledge.specs.Closings.{closed_by, closing_changes, closing_of}
pub use Rattle.knowledge.specs.CommandOutcomes.CommandsBy.{outcome}
pub use Rattle.knowledge.specs.CommandOutcomes.Ids.{LeavesIds}
pub use Rattle.knowledge.specs.CommandOutcomes.Jobs.{refusal_by}
pub use Rattle.knowledge.specs.CommandOutcomes.Outcomes.{Outcome, by_hand, first_of, removal_refusal, scan_by}
unfoldable pub use Rattle.knowledge.specs.CommandOutcomes.Outcomes.{outcome_of}
pub use Rattle.knowledge.specs.CommandOutcomes.Periods.{period_by}
pub use Rattle.knowledge.specs.CommandOutcomes.Readings.{reading_by}
pub use Rattle.knowledge.specs.CommandOutcomes.declared.command.Numbers.{Numbers}
pub use Rattle.knowledge.specs.CommandOutcomes.declared.command.Update.{Update}
pub use Rattle.knowledge.specs.CommandOutcomes.declared.command.Update.TheVariants as update
pub use Rattle.knowledge.specs.CommandOutcomes.declared.configuration.Configuration.{Configuration}
pub use Rattle.knowledge.specs.Commands.Routes.{route_of}
pub use Rattle.knowledge.specs.Commands.declared.line.Line.{Line}
pub use Rattle.knowledge.specs.Commands.declared.refusal.Refusal.{Refusal}
pub use Rattle.knowledge.specs.Commands.declared.refusal.Refusal.TheVariants.{UnknownInstance, Unreachable}
pub use Rattle.knowledge.specs.Commands.declared.route.Route.{Route}
pub use Rattle.knowledge.specs.Commands.declared.route.Route.TheVariants.{Asks, Begins, Decides, Discovers, Forgets, Recovers, TakesOver}
pub use Rattle.knowledge.specs.Commands.declared.turn.Command.{Command}
pub use Rattle.knowledge.specs.Commands.declared.turn.CommandTurn.{CommandTurn}
pub use Rattle.knowledge.specs.Faults.{HasTurnCause}
pub use Rattle.knowledge.specs.InstanceKeeper.Book.{empty_book, instance_at}
pub use Rattle.knowledge.specs.Kept.{Keeps, changes_by, kept_if}
pub use Rattle.knowledge.specs.KeptRows.Seeing.{seen_in}
pub use Rattle.knowledge.specs.KeptRows.Servers.{observed_servers, source_servers}
pub use Rattle.knowledge.specs.KeptRows.declared.observation.Observation.{Observation}
pub use Rattle.knowledge.specs.KeptRows.declared.row.Change.TheVariants as change
pub use Rattle.knowledge.specs.KeptRows.declared.row.Key.TheVariants as key
pub use Rattle.knowledge.specs.KeptRows.declared.row.Row.TheVariants as row
pub use Rattle.knowledge.specs.KeptRows.declared.row.Table.TheVariants as table
pub use Rattle.knowledge.specs.Knowing.{IsUpdate, Knowledge, updated}
unfoldable pub use Rattle.knowledge.specs.NameOrder.NameOrder.{by_name}
pub use Rattle.knowledge.specs.OrchBase.Memory.{next_count}
pub use Rattle.knowledge.specs.OrchBase.declared.server.ServerNo.{ServerNo}
pub use Rattle.knowledge.specs.RecoveryCore.Recoveries.{recovery_refusal}
pub use Rattle.knowledge.specs.RecoveryCore.Takeovers.{takeover_refusal}
pub use Rattle.knowledge.specs.Replies.{AreReply, stored_reply}
pub use Rattle.knowledge.specs.Scenarios.Scenarios.{IsScenario, flushes_of, period_of, room_of, settings_of}
pub use Rattle.knowledge.specs.Scenarios.ValidTurns.{IsAct, IsCommand, IsStep, IsTurn, NamesOneOf, pollers}
pub use Rattle.knowledge.specs.Scenarios.declared.scenario.Scenario.{Scenario}
pub use Rattle.knowledge.specs.ServerModel.Desk.{rotate}
pub use Rattle.knowledge.specs.ServerModel.Exchanges.{apply, fetch, write}
pub use Rattle.knowledge.specs.ServerModel.Gtids.{status}
pub use Rattle.knowledge.specs.ServerModel.Purging.{purge}
pub use Rattle.knowledge.specs.ServerModel.Run.{Apply, Befall, Exchange, Fetch, Purge, Rotate, Write, run}
pub use Rattle.knowledge.specs.ServerWords.declared.changes.Event.TheVariants as event
pub use Rattle.knowledge.specs.Turns.Plain.{is_plain}
pub use Rattle.knowledge.specs.Turns.declared.reply.Reply.{Reply}
pub use Rattle.knowledge.specs.Turns.declared.reply.Reply.TheVariants as answered
pub use Rattle.knowledge.specs.Turns.declared.turn.Act.{Act}
pub use Rattle.knowledge.specs.Turns.declared.turn.Act.TheVariants as act
pub use Rattle.knowledge.specs.Turns.declared.turn.Step.{Step}
pub use Rattle.knowledge.specs.Turns.declared.turn.Step.TheVariants as step
pub use Rattle.knowledge.specs.Turns.declared.turn.Turn.{Turn}
pub use Rattle.knowledge.specs.Turns.declared.turn.Turn.TheVariants as turn
pub use Rattle.knowledge.specs.UnendedJobs.Jobs.{Rise, book_turned, is_open, job_at, job_exchanges, job_observation, job_reply, jobs_turned}
pub use Rattle.knowledge.specs.UnendedJobs.Jobs.{most_turns, reads_with, stored, without_job}
pub use Rattle.knowledge.specs.UnendedJobs.Rounds.{round_over}
pub use Rattle.knowledge.specs.UnendedJobs.Unended.{Flown, IsUnended, flown, number_of}
pub use Rattle.knowledge.specs.UnendedJobs.declared.unended.Unended.{Unended}
pub use Rattle.knowledge.specs.UnendedJobs.declared.unended.Unended.TheVariants as unended
pub use Rattle.knowledge.specs.declared.fault.TurnFault.{TurnFault}
pub use Rattle.knowledge.specs.declared.fault.TurnFault.TheVariants as fault
pub use Rattle.node_claims.specs.Claims.{ClaimState, IsNode, active, is_of, made, release_answer}
pub use Rattle.node_claims.specs.Claims as claims
pub use Rattle.node_claims.specs.declared.claims.ClaimAnswer.{ClaimAnswer}
pub use Rattle.node_claims.specs.declared.claims.ClaimAnswer.TheVariants as claim
pub use Rattle.node_claims.specs.declared.claims.ReleaseAnswer.{ReleaseAnswer}
pub use Rattle.node_claims.specs.declared.claims.ReleaseAnswer.TheVariants as release
pub use Rattle.opening_book.specs.Audits.{audit_of, last_id, latest_recovery}
pub use Rattle.opening_book.specs.Counting.{counted, greatest_id, last_read, latest, loaded}
pub use Rattle.opening_book.specs.Opening.{is_opening_change, loading, opened_book, opening_changes}
pub use Rattle.opening_book.specs.Prelude.{AuditState, BookState, Change, IsAudit, Moment, Row, Server, World, are_known, changed, closed}
pub use Rattle.opening_book.specs.Prelude.{longest_block, recovery_at}
pub use Rattle.opening_book.specs.Reads.{AreReadWithin}
pub use Rattle.world_openings.specs.Opening.{opened_world}
