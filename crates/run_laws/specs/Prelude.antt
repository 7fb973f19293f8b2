-- What this crate's definitions and contracts cite of others.
pub use Rattle.std.specs.Option.{option_to_list}
pub use Rattle.cause_laws.specs.Courses.{AllFree, AllGoing, AreSpent, IsDoneIn, Meeting, job_after, turn_at}
pub use Rattle.cause_laws.specs.Events.{Befell}
pub use Rattle.cause_laws.specs.Hands.{is_in_hands}
pub use Rattle.cause_laws.specs.Prelude.{Attached, Cause, HasLeases, Status, attach_at, attach_auto, match_logs, turns_left}
pub use Rattle.move_laws.specs.Lowest.{IsAnswer, coords_checks, gtid_checks, match_checks, path_checks, recovery_checks, takeover_checks}
pub use Rattle.move_laws.specs.Prelude.{Attempt, Entry, IsBook, Op, Recovery, actionable_in, begun, coords_command, label_at, leases_of, path_of}
pub use Rattle.move_laws.specs.Prelude.{replicas_of, scanned, source_of, taken, with_bridge}
pub use Rattle.move_laws.specs.Prelude.{Action, Code, IntermediateRecovery, MasterRecovery, Nothing, action_of, code_at}
pub use Rattle.move_laws.specs.Tries.{AreTries}
pub use Rattle.orch_core.specs.After.{after_restart, step}
pub use Rattle.orch_core.specs.AskingCommands.Answers.{allowed, permitted}
pub use Rattle.orch_core.specs.AuditLog.Apart.{IsApart, IsClear}
pub use Rattle.orch_core.specs.AuditLog.Audits.{is_of}
pub use Rattle.orch_core.specs.BinlogCoords.Log.{is_before}
pub use Rattle.orch_core.specs.CommandOutcomes.HookTelling.{told_try, with_told}
pub use Rattle.orch_core.specs.CommandOutcomes.Jobs.{job_by, leases_by}
pub use Rattle.orch_core.specs.CommandOutcomes.Outcomes.{busy_given, entries_put, terms_of}
pub use Rattle.orch_core.specs.Commands.Causes.{cause_name}
pub use Rattle.orch_core.specs.Commands.declared.cause.Cause.TheVariants as cause
pub use Rattle.orch_core.specs.Commands.declared.kinds.CoordsCommand.{CoordsCommand}
pub use Rattle.orch_core.specs.Commands.declared.kinds.CoordsCommand.TheVariants as coords_kind
pub use Rattle.orch_core.specs.Commands.declared.kinds.GtidCommand.{GtidCommand}
pub use Rattle.orch_core.specs.Commands.declared.kinds.GtidCommand.TheVariants as gtid_kind
pub use Rattle.orch_core.specs.Commands.declared.kinds.MatchCommand.{MatchCommand}
pub use Rattle.orch_core.specs.Commands.declared.kinds.MatchCommand.TheVariants as match_kind
pub use Rattle.orch_core.specs.Commands.declared.kinds.PathCommand.{PathCommand}
pub use Rattle.orch_core.specs.Commands.declared.kinds.PathCommand.TheVariants as path_kind
pub use Rattle.orch_core.specs.Commands.declared.line.Line.TheVariants as line
pub use Rattle.orch_core.specs.Commands.declared.refusal.Refusal.TheVariants as refusal
pub use Rattle.orch_core.specs.Commands.declared.route.Decision.{Decision}
pub use Rattle.orch_core.specs.Commands.declared.route.Decision.TheVariants as decision
pub use Rattle.orch_core.specs.Commands.declared.route.Planner.{Planner}
pub use Rattle.orch_core.specs.Commands.declared.route.Planner.TheVariants.{Coordinates, Gtids, Matches, Paths}
pub use Rattle.orch_core.specs.Commands.declared.route.Route.TheVariants
pub use Rattle.orch_core.specs.FailureAnalysis.Analysis.{counts_of, is_replica_that, lags, replicates}
pub use Rattle.orch_core.specs.FailureAnalysis.Table.{AreCounts, code_of}
pub use Rattle.orch_core.specs.FailureAnalysis.declared.code.Counts.{Counts}
pub use Rattle.orch_core.specs.OrchBase.declared.code.Code.TheVariants as code
pub use Rattle.orch_core.specs.OrchBase.declared.server.SourceState.{SourceState}
pub use Rattle.orch_core.specs.OrchBase.declared.server.SourceState.TheVariants.{Detached}
pub use Rattle.orch_core.specs.OrchBase.declared.server.Version.{Version}
pub use Rattle.orch_core.specs.Permission.Checks.{Case, check_number, refusal_by as refusal_in}
pub use Rattle.orch_core.specs.Permission.declared.case.Check.{Check}
pub use Rattle.orch_core.specs.Permission.declared.case.Check.TheVariants as check
pub use Rattle.orch_core.specs.Permission.declared.case.Move.{Move}
pub use Rattle.orch_core.specs.MovesCoords.Permits.{row_of as coords_row}
pub use Rattle.orch_core.specs.MovesGtid.Permits.{row_of as gtid_row}
pub use Rattle.orch_core.specs.PseudoMatch.Permits.{last_row_of as match_last, row_of as match_row}
pub use Rattle.orch_core.specs.RecoveryCore.Takeovers.{row as takeover_row}
pub use Rattle.orch_core.specs.Regroup.Permits.{last_row_of as path_last, row_of as path_row}
pub use Rattle.orch_core.specs.Scenarios.Blocks.{period_in}
pub use Rattle.orch_core.specs.Scenarios.declared.blocks.Block.{Block}
pub use Rattle.orch_core.specs.InstanceKeeper.Book.{after_store, downtime_at, lease_at, rule_at}
pub use Rattle.orch_core.specs.InstanceKeeper.Had.{candidate_kept, downtime_kept}
pub use Rattle.orch_core.specs.KeptRows.Recoveries.{as_row, put_recovery}
pub use Rattle.orch_core.specs.KeptRows.Rows.{IsRising, row_in, sort_key}
pub use Rattle.orch_core.specs.KeptRows.declared.observation.Instance.{Instance}
pub use Rattle.orch_core.specs.KeptRows.declared.row.Candidate.{Candidate}
pub use Rattle.orch_core.specs.KeptRows.declared.row.Downtime.{Downtime}
pub use Rattle.orch_core.specs.KeptRows.declared.row.Key.TheVariants as key
pub use Rattle.orch_core.specs.KeptRows.declared.row.Row.TheVariants as row
pub use Rattle.orch_core.specs.KeptRows.declared.row.Table.TheVariants as table
pub use Rattle.orch_core.specs.Knowledge.Knowing.{recovery_job}
pub use Rattle.orch_core.specs.MovesCoords.Plans as coords_plans
pub use Rattle.orch_core.specs.MovesGtid.Plans as gtid_plans
pub use Rattle.orch_core.specs.NodeClaims.Reached.{IsActive, IsReached}
pub use Rattle.orch_core.specs.Nodes.{act_in, acts, claim_changes, claim_or, claims_after, with_claims}
pub use Rattle.orch_core.specs.OpeningBook.Counting.{counts}
pub use Rattle.orch_core.specs.OpeningBook.Following.{Follow, FollowAudit}
pub use Rattle.orch_core.specs.Operations.Deeds as deed
pub use Rattle.orch_core.specs.Operations.declared.op.Crossing.TheVariants as cross
pub use Rattle.orch_core.specs.Operations.declared.op.Op.TheVariants as op
pub use Rattle.orch_core.specs.Operations.declared.step.JobStep.{JobStep}
pub use Rattle.orch_core.specs.Operations.declared.step.JobStep.TheVariants as jobstep
pub use Rattle.orch_core.specs.OrchBase.declared.recovery.Ending.TheVariants as ending
pub use Rattle.orch_core.specs.OrchBase.declared.recovery.Kind.{Kind}
pub use Rattle.orch_core.specs.OrchBase.declared.recovery.Kind.TheVariants as kind
pub use Rattle.orch_core.specs.OrchBase.declared.rule.Rule.TheVariants as rule
pub use Rattle.orch_core.specs.OrchBase.declared.server.IoState.TheVariants as io
pub use Rattle.orch_core.specs.Polls.{changes_of, numbers_of, reading, slot_at}
pub use Rattle.orch_core.specs.Prelude.{Act, Asks, AuditState, BookState, Change, Command, CommandTurn, Configuration, Decides, Discovers, Exchange}
pub use Rattle.orch_core.specs.Prelude.{Forgets, IsScenario, IsTurn, Line, Moment, NamesOneOf, Observation, Recovers, Refusal, Rise, Route, Row}
pub use Rattle.orch_core.specs.Prelude.{Scenario, Server, ServerNo, TakesOver, Turn, Unended, World, active, apply, by_hand, changed, closed}
pub use Rattle.orch_core.specs.Prelude.{greatest_id, instance_at, is_open, is_unended, job_at, last_read, longest_block, most_turns, next_count}
pub use Rattle.orch_core.specs.Prelude.{number_of, period_by, period_of, pollers, refusal_by, removal_refusal, rotate, route_of, run, seen_in, status}
pub use Rattle.orch_core.specs.Prelude.{unknown_in, write}
unfoldable pub use Rattle.orch_core.specs.Prelude.{by_name}
pub use Rattle.orch_core.specs.PseudoMatch.Plans as match_plans
pub use Rattle.orch_core.specs.RecoveryCore.Begun.{leases_after}
pub use Rattle.orch_core.specs.RecoveryCore.Endings.{done_with}
pub use Rattle.orch_core.specs.RecoveryCore.Scans.{Staged, attempt_of}
pub use Rattle.orch_core.specs.RecoveryCore.Tries.{Begins, recovery_try, takeover_try}
pub use Rattle.orch_core.specs.RecoveryPlans.Deciding.{decided}
pub use Rattle.orch_core.specs.RecoveryPlans.Recoveries
pub use Rattle.orch_core.specs.RecoveryPlans.declared.purpose.Purpose.TheVariants as purpose
pub use Rattle.orch_core.specs.RefusedCommands.{refusal_at, unreached}
pub use Rattle.orch_core.specs.RefusedCommands
pub use Rattle.orch_core.specs.Regroup.Plans as path_plans
pub use Rattle.orch_core.specs.Replies.{reply_of}
pub use Rattle.orch_core.specs.Restarts.{interrupted_at, last_given, reloaded_audit, reloaded_rows}
pub use Rattle.orch_core.specs.Rounds.{round_of}
pub use Rattle.orch_core.specs.Runs.{Held, asks, engine, held_run, run_turns, turns_of}
pub use Rattle.orch_core.specs.Scenarios.ValidTurns.{is_rotate, is_write}
pub use Rattle.orch_core.specs.ServerModel.Attach.{live_spot, same_spot}
pub use Rattle.orch_core.specs.ServerModel.Desk.{asked}
pub use Rattle.orch_core.specs.ServerModel.Gtids.{source_at}
pub use Rattle.orch_core.specs.ServerModel.Run.{IsJunction}
pub use Rattle.orch_core.specs.ServerModel.Run as exchange
pub use Rattle.orch_core.specs.ServerModel.Safe.{Placed}
pub use Rattle.orch_core.specs.ServerWords.declared.answers.ApplyAnswer.TheVariants as applied
pub use Rattle.orch_core.specs.ServerWords.declared.answers.RotateAnswer.TheVariants as rotated
pub use Rattle.orch_core.specs.ServerWords.declared.answers.WriteAnswer.TheVariants as wrote
pub use Rattle.orch_core.specs.ServerWords.declared.changes.Ask.TheVariants as asking
pub use Rattle.orch_core.specs.ServerWords.declared.changes.Event.TheVariants as event
pub use Rattle.orch_core.specs.ServerWords.declared.changes.Threads.TheVariants as threads
pub use Rattle.orch_core.specs.Starts.{start, start_changes}
pub use Rattle.orch_core.specs.States.{HasKnownSource, IsSlot, IsState, State, entry_id}
pub use Rattle.orch_core.specs.TurnExchanges.{exchange_of, exchanges_at}
pub use Rattle.orch_core.specs.Turns.declared.reply.Failure.{Failure}
pub use Rattle.orch_core.specs.Turns.declared.reply.Reply.TheVariants as answered
pub use Rattle.orch_core.specs.Turns.declared.turn.Act.TheVariants as act
pub use Rattle.orch_core.specs.Turns.declared.turn.Step.TheVariants as turns_step
pub use Rattle.orch_core.specs.Turns.declared.turn.Turn.TheVariants as turn
pub use Rattle.orch_core.specs.UnendedJobs.Hooked.{front_hook}
pub use Rattle.orch_core.specs.UnendedJobs.Unended.{IsReady}
pub use Rattle.orch_core.specs.UnendedJobs.declared.unended.Unended.TheVariants as unended
pub use Rattle.recovery_covers.specs.JobLaws.Passages as pass
pub use Rattle.recovery_covers.specs.RecoveryLaws.Standing.{IsUnder}
pub use Rattle.recovery_covers.specs.ReplicationLaws.Room.{IsNotFull}
pub use Rattle.unended_laws.specs.Flights.{HeldJobs, SoundJobs}
pub use Rattle.unended_laws.specs.Passages.{passages_by}
pub use Rattle.unended_laws.specs.Prelude.{AllMayPass, AllPassWell, AreReplicas, Ask, Bridge, Coord, Deed, Flight, IsLeased, IsQuiet, Job, Match}
pub use Rattle.unended_laws.specs.Prelude.{Passage, Position, Purpose, Safe, Spot, Taken, after, core_of, deed_of, ground_of, hooked, is_attached}
pub use Rattle.unended_laws.specs.Prelude.{is_takeover, passing, server_at}
pub use Rattle.unended_laws.specs.There.{IsApplying}
