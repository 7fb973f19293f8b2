-- What its proofs cite of others.
pub use Rattle.std.proofs.Math.Seq.{take-append-add}
pub use Rattle.std.proofs.lemmas.Bool.{eq-eqb, eqb-true, false≢true, leb-true, ltb-false, ltb-true, ne_eqb}
pub use Rattle.std.proofs.lemmas.List.{length-append, length-map, length-replicate, map-append, take_more}
pub use Rattle.std.proofs.lemmas.List.Elements.{All-append, All-cons, All-filter, All-map, All-nil, All-push, All-replicate, All-set, All-weaker}
pub use Rattle.std.proofs.lemmas.List.Filters.{length-filter_both}
pub use Rattle.std.proofs.lemmas.List.Sums.{fold-append, get_or-le-sum_by}
pub use Rattle.std.proofs.lemmas.Result.{err_from_is_err_and, on_ok_weaker}
pub use Rattle.std.specs.Cmp.Lexicographic.{pointwise}
pub use Rattle.std.specs.List.{flat_map, list_any}
pub use Rattle.knowledge.proofs.AuditLog.Changes.{IsAudit-begun, IsAudit-map}
pub use Rattle.knowledge.proofs.AuditLog.Kept.{acknowledged-block, acknowledged-id, interrupted-block, interrupted-id}
pub use Rattle.knowledge.proofs.AuditLog.Parting.{apart-begins}
pub use Rattle.knowledge.proofs.Causes.{cause-carried, cause-fine, cause-later, cause-stays}
pub use Rattle.knowledge.proofs.CommandOutcomes.Begun.{job-number, job-unended, leases-free, leases-within}
pub use Rattle.knowledge.proofs.CommandOutcomes.HookTold.{told-can, told-in-turn}
pub use Rattle.knowledge.proofs.InstanceKeeper.Cleared.{cleared, cleared_all, cleared_next}
pub use Rattle.knowledge.proofs.KeptRows.Known.{both_true, head_known}
pub use Rattle.knowledge.proofs.RecoveryCore.Beginning.{recovery-begins, takeover-begins}
pub use Rattle.knowledge.proofs.RecoveryCore.Ended.{going-unended}
pub use Rattle.knowledge.proofs.RecoveryCore.InTurn.{scan-in-turn, scan-moments}
pub use Rattle.knowledge.proofs.RecoveryEnds.Ended.{begun-shaped}
pub use Rattle.knowledge.proofs.Remaining.{joined}
pub use Rattle.knowledge.proofs.ScenariosProofs.Rooms.{longest-at}
pub use Rattle.knowledge.proofs.ServerModel.Counts.{servers-after, servers-run}
pub use Rattle.knowledge.proofs.ServerModel.Sources as model
pub use Rattle.knowledge.proofs.UnendedJobs.Going.{flown-allowed, flown-fewer, flown-number, flown-sees, flown-unended, ready-of}
pub use Rattle.knowledge.proofs.UnendedJobs.Looking.{foretold-observation, foretold-step}
pub use Rattle.knowledge.proofs.UnendedJobs.Numbers.{Rise-push, Rise-with, Rise-without, found-number, with-past}
pub use Rattle.knowledge.proofs.UnendedJobs.Turning.{found-here}
pub use Rattle.knowledge.specs.AskingCommands.Answers.{allowed, lines_of, permitted}
pub use Rattle.knowledge.specs.AuditLog.Apart.{MayBegin}
pub use Rattle.knowledge.specs.AuditLog.Audits.{acked_so, acknowledged_at, acknowledged_for, begun, ended, ended_so, interrupted, is_of}
pub use Rattle.knowledge.specs.AuditLog.Audits
pub use Rattle.knowledge.specs.BookCommands.Decisions.{about, acked, book_after, candidate_of, decided_of, downtime_begun, downtime_ended}
pub use Rattle.knowledge.specs.BookCommands.Decisions.{downtime_of, downtime_removal, effect_by}
pub use Rattle.knowledge.specs.BookCommands.Decisions
pub use Rattle.knowledge.specs.BookCommands.declared.decided.Decided.{Decided}
pub use Rattle.knowledge.specs.BookCommands.declared.decided.Effect.{Effect}
pub use Rattle.knowledge.specs.BookCommands.declared.decided.Effect.TheVariants as effect
pub use Rattle.knowledge.specs.BookViews.Sources.{label_at}
pub use Rattle.knowledge.specs.Closings.{closing_by, closing_for}
pub use Rattle.knowledge.specs.CommandOutcomes.HookTelling.{told_try, with_told}
pub use Rattle.knowledge.specs.CommandOutcomes.Jobs.{job_by, job_in, leases_by, means_of, regroup_about}
pub use Rattle.knowledge.specs.CommandOutcomes.Outcomes.{asked, decided, discovered, forgotten, next_reading, only_lines, outcome_by, question}
pub use Rattle.knowledge.specs.CommandOutcomes.Outcomes.{recovered, recovery_begun, refusal, taken_over, terms_of}
pub use Rattle.knowledge.specs.CommandOutcomes.Outcomes
pub use Rattle.knowledge.specs.CommandOutcomes.declared.command.Update.TheVariants as update
pub use Rattle.knowledge.specs.Commands.Turns.{has_needed, is_within}
pub use Rattle.knowledge.specs.Commands.declared.route.Decision.{Decision}
pub use Rattle.knowledge.specs.Commands.declared.route.Decision.TheVariants as decision
pub use Rattle.knowledge.specs.Commands.declared.route.Planner.{Planner}
pub use Rattle.knowledge.specs.Commands.declared.route.Route.TheVariants
pub use Rattle.knowledge.specs.Commands.declared.turn.Keys.{Keys}
pub use Rattle.knowledge.specs.HookTexts.declared.hooks.Hook.{Hook}
pub use Rattle.knowledge.specs.InstanceKeeper.Book.{added_over, after_row, discovered_over, downtime_at, empty_book, renewed, renewed_book}
pub use Rattle.knowledge.specs.InstanceKeeper.Book.{stored_over}
pub use Rattle.knowledge.specs.InstanceKeeper.Had.{has_row}
pub use Rattle.knowledge.specs.KeptRows.Servers.{seen_servers}
pub use Rattle.knowledge.specs.KeptRows.declared.recovery.RecoveryRow.{RecoveryRow}
pub use Rattle.knowledge.specs.KeptRows.declared.row.Change.TheVariants as change
pub use Rattle.knowledge.specs.KeptRows.declared.row.Key.TheVariants as key
pub use Rattle.knowledge.specs.KeptRows.declared.row.Row.TheVariants as row
pub use Rattle.knowledge.specs.KeptRows.declared.row.Table.TheVariants as table
pub use Rattle.knowledge.specs.Knowing.{IsEffect, MayTake, recovery_job}
pub use Rattle.knowledge.specs.KnowingBy.{known}
pub use Rattle.knowledge.specs.Operations.Turns.{is_going}
pub use Rattle.knowledge.specs.Operations.declared.step.JobStep.{JobStep}
pub use Rattle.knowledge.specs.Operations.declared.step.JobStep.TheVariants as jobstep
pub use Rattle.knowledge.specs.OrchBase.declared.recovery.Ending.{Ending}
pub use Rattle.knowledge.specs.OrchBase.declared.recovery.Ending.TheVariants as ending
pub use Rattle.knowledge.specs.OrchBase.declared.server.SourceState.TheVariants.{Attached, Detached}
pub use Rattle.knowledge.specs.OrchBase.declared.server.SourceState.TheVariants as source
pub use Rattle.knowledge.specs.RecoveryCore.Begun.{BeginInTurn, CanBegin, IsListed, audit_after}
pub use Rattle.knowledge.specs.RecoveryCore.Endings.{ending_of, is_acknowledged}
pub use Rattle.knowledge.specs.RecoveryCore.Scans.{HasRoom, attempt_of, scanned}
pub use Rattle.knowledge.specs.RecoveryCore.Tries.{Begins, recovery_begins, takeover_begins, unless_refused}
pub use Rattle.knowledge.specs.RecoveryEnds.Ends.{IsShaped}
pub use Rattle.knowledge.specs.RecoveryPlans.Beginning.{first_source}
pub use Rattle.knowledge.specs.RecoveryPlans.Named.{IsListOf}
pub use Rattle.knowledge.specs.RecoveryPlans.Recoveries
pub use Rattle.knowledge.specs.RecoveryPlans.Taking.{taken}
pub use Rattle.knowledge.specs.RecoveryPlans.declared.means.Means.{Means}
pub use Rattle.knowledge.specs.RecoveryPlans.declared.purpose.Purpose.{Purpose}
pub use Rattle.knowledge.specs.RecoveryPlans.declared.purpose.Purpose.TheVariants as purpose
pub use Rattle.knowledge.specs.Scenarios.Blocks.{period_in}
pub use Rattle.knowledge.specs.Scenarios.declared.blocks.Block.{Block}
pub use Rattle.knowledge.specs.ServerModel.Gtids.{seen_purged, seen_set, source_at, status_in, status_of}
pub use Rattle.knowledge.specs.ServerModel.Run.{AllAllowed, AllJoinWell}
pub use Rattle.knowledge.specs.ServerWords.declared.status.Status.{Status}
pub use Rattle.knowledge.specs.ServerWords.declared.status.StatusFault.{StatusFault}
pub use Rattle.knowledge.specs.ServerWords.declared.status.StatusFault.TheVariants as seeing
pub use Rattle.knowledge.specs.Turns.declared.turn.Act.TheVariants as act
pub use Rattle.knowledge.specs.Turns.declared.turn.Step.TheVariants as turns_step
pub use Rattle.knowledge.specs.Turns.declared.turn.Turn.TheVariants as turn
pub use Rattle.knowledge.specs.UnendedJobs.Hooked.{front_hook, front_turn, promoted_in, rear_hook, rear_turn}
pub use Rattle.knowledge.specs.UnendedJobs.Jobs.{most_turns_by, step_reply, turn_by, with_job, without_leases}
pub use Rattle.knowledge.specs.UnendedJobs.Looks.{CanGo, foretold, observation_of, step_of}
pub use Rattle.knowledge.specs.UnendedJobs.Rounds.{polls, replicates}
pub use Rattle.knowledge.specs.UnendedJobs.Unended as UnendedJobs
pub use Rattle.knowledge.specs.UnendedJobs.declared.look.UnendedLook.{UnendedLook}
pub use Rattle.knowledge.specs.UnendedJobs.declared.unended.Unended.TheVariants as unended
pub use Rattle.knowledge.specs.declared.closing.Closing.{Closing}
pub use Rattle.knowledge.specs.declared.fault.TurnFault.TheVariants as fault
pub use Rattle.knowledge.specs.declared.replies.Replies.{Replies}
pub use Rattle.node_claims.proofs.Owned.{acted_long, answered_long, released_long}
pub use Rattle.node_claims.specs.Claims as claims
pub use Rattle.node_claims.specs.declared.claims.ClaimAnswer.TheVariants as claim
pub use Rattle.opening_book.proofs.Following.{HasSameServers, same-change, same-put}
pub use Rattle.opening_book.proofs.Recoveries.{audit-loaded, audit-opened, last_id-within}
pub use Rattle.opening_book.specs.Audits.{recovery_raised}
pub use Rattle.opening_book.specs.Counting.{counts, end_or, greatest, is_block_in_range, is_end_in_range, is_in_range, raised}
pub use Rattle.opening_book.specs.Opening.{after_opening, missing, missing_from, opening_instance, put_instance, registered, registering}
pub use Rattle.opening_book.specs.Opening.{registering_from}
pub use Rattle.opening_book.specs.Prelude.{Candidate, Instance, IsBook, IsInRange, Recovery, Rule, Settings, acknowledged, after_put, book_made, fits}
pub use Rattle.opening_book.specs.Prelude.{loaded_by, map_of, put_change, recoveries_in, row_fits, server_at, servers_of}
pub use Rattle.orch_core.specs.After.{after_act, after_done, after_restart, step}
pub use Rattle.orch_core.specs.Due.{last_poll, last_poll_from, polled_at}
pub use Rattle.orch_core.specs.EngineBy.{state_of}
pub use Rattle.orch_core.specs.Jobs.{turn_of, turned_at}
pub use Rattle.orch_core.specs.Keeping.{Calls, Ran, StepsTo, Takes, WasCutOff, kept_by, kept_with}
pub use Rattle.orch_core.specs.Nodes.{act_claimed, act_in, acts, claimed, holder_of, kept_claim, passes_to, with_claims}
pub use Rattle.orch_core.specs.Polls.{act_changes, changes_of, command_outcome, done_changes, empty_slots, numbers_of, scan_outcome}
pub use Rattle.orch_core.specs.Prelude.{Act, Apply, AreReadWithin, AreReply, Asks, AuditState, BookState, Change, ClaimAnswer, ClaimState, Command}
pub use Rattle.orch_core.specs.Prelude.{CommandTurn, Configuration, Decides, Discovers, Exchange, Flown, Forgets, IsAct, IsAudit, IsCommand}
pub use Rattle.orch_core.specs.Prelude.{IsScenario, IsStep, IsTurn, IsUnended, IsUpdate, Keeps, Knowledge, LeavesIds, Line, Moment, NamesOneOf, Numbers}
pub use Rattle.orch_core.specs.Prelude.{Observation, Outcome, Recovers, Refusal, Reply, Rise, Route, Row, Scenario, Server, ServerNo, Step, TakesOver}
pub use Rattle.orch_core.specs.Prelude.{Turn, TurnFault, Unended, UnknownInstance, Unreachable, Update, World, are_known, audit_of, book_turned}
pub use Rattle.orch_core.specs.Prelude.{by_hand, changed, changes_by, closed, closed_by, closing_changes, closing_of, counted, flown, flushes_of}
pub use Rattle.orch_core.specs.Prelude.{greatest_id, instance_at, is_open, is_opening_change, is_unended, job_at, job_exchanges, job_observation}
pub use Rattle.orch_core.specs.Prelude.{job_reply, jobs_turned, kept_if, last_id, last_read, latest, latest_recovery, loaded, loading, longest_block}
pub use Rattle.orch_core.specs.Prelude.{made, most_turns, next_count, number_of, observed_servers, opened_book, opened_world, opening_changes}
pub use Rattle.orch_core.specs.Prelude.{option_map, outcome, period_by, period_of, pollers, reading_by, reads_with, recovery_refusal, refusal_by}
pub use Rattle.orch_core.specs.Prelude.{removal_refusal, room_of, round_over, route_of, run, scan_by, seen_in, settings_of, source_servers, status}
pub use Rattle.orch_core.specs.Prelude.{stored, takeover_refusal, updated, without_job}
unfoldable pub use Rattle.orch_core.specs.Prelude.{by_name, outcome_of}
pub use Rattle.orch_core.specs.Replies.{act_reply, done_reply, reply_of}
pub use Rattle.orch_core.specs.Restarts.{interrupted_at, last_given, reloaded_audit, reloaded_book, reloaded_moment, reloaded_rows, restart_changes}
pub use Rattle.orch_core.specs.Rounds.{FinishedBy, WasCutShort, after_rounds, after_turns, round_of, times, told_in}
pub use Rattle.orch_core.specs.Runs.{Held, LeadsTo, Machine, Recorded, act_asks, asks, done_asks, engine, held_run, held_step, recorder, run_turns}
pub use Rattle.orch_core.specs.Runs.{turns_of}
pub use Rattle.orch_core.specs.Settling.{BeginInTime, CanSettle, IsNext, known_of, settled, with_known}
pub use Rattle.orch_core.specs.Starts.{StartsBy, configuration_of, kept_at_start, loaded_audit, loaded_book, start, start_changes, start_moment}
pub use Rattle.orch_core.specs.Starts.{start_rows, start_world}
pub use Rattle.orch_core.specs.States.{HasEntry, HasKnownSource, HaveEntries, IsOpenAt, IsSlot, IsState, State, entry_id, nodes_of}
pub use Rattle.orch_core.specs.TurnExchanges.{exchange_of, later}
pub use Rattle.world_openings.proofs.Opened.{given-opened, length-opened_from}
pub use Rattle.world_openings.proofs.Prelude.{All-head, All-tail, Fits, ServerInit, SourceState, append-nil, get_or_from_slice_get, length-set}
pub use Rattle.world_openings.proofs.Prelude.{nat_tests, parts_of, same_Some, slice_get-get_or, slice_get_within, source_no, source_state}
pub use Rattle.world_openings.proofs.Prelude.{transactions}
