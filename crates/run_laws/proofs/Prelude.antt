-- What its proofs cite of others.
pub use Rattle.std.proofs.lemmas.Bool.{cases_lt, eqb-false, le-leb, or_parts}
pub use Rattle.std.proofs.lemmas.List.Elements.{All-contains_itself, All-take, Contains-append_left}
pub use Rattle.std.proofs.lemmas.List.Folds.{find-append}
pub use Rattle.std.proofs.lemmas.List.Kept.{AllPairs-filter}
pub use Rattle.std.proofs.lemmas.List.Sorted.{sum_by-IsPermutation}
pub use Rattle.std.proofs.lemmas.List.Sums.{sum_by-append, sum_by-cons}
pub use Rattle.std.proofs.lemmas.Option.{none-some}
pub use Rattle.std.specs.List.{sum_by}
pub use Rattle.cause_laws.proofs.Holding.{deed-hands, hands_by, has, has-with, has-without}
pub use Rattle.cause_laws.proofs.JobLaws.Planned.{up-itself}
pub use Rattle.cause_laws.proofs.JobLaws.Trying.{same-tried}
pub use Rattle.cause_laws.proofs.Taking.{deed-taken}
pub use Rattle.cause_laws.proofs.Turning.{failed-befell, spent-last, turn-idle, turn-taken, undisturbed-done}
pub use Rattle.cause_laws.specs.Courses.{is_finish}
pub use Rattle.cause_laws.specs.Events.{IsTaken, Misses}
pub use Rattle.cause_laws.specs.Events as events
pub use Rattle.move_laws.proofs.Apart.{path-apart}
pub use Rattle.move_laws.proofs.Begun as coords
pub use Rattle.move_laws.proofs.BegunGtid as gtids
pub use Rattle.move_laws.proofs.BegunMatch as matches
pub use Rattle.move_laws.proofs.BegunPath as paths
pub use Rattle.move_laws.proofs.Firsts.{given-by}
pub use Rattle.move_laws.proofs.Prelude.{action_checks, code_checks, own_checks, without_candidate}
pub use Rattle.move_laws.proofs.Prelude.{Action, AreTries, Attempt, Code, Contains-append_right, Contains-get_or, CoordsCommand, Entry, Footing}
pub use Rattle.move_laws.proofs.Prelude.{GtidCommand, IsAnswer, IsNoLower, IsOrder-by_name, Left, MatchCommand, Path, PathCommand, Scan, Staged}
pub use Rattle.move_laws.proofs.Prelude.{about as about_kind, about_one, action_of, actionable_in, after_try, again, again_auto, are_held, are_listed}
pub use Rattle.move_laws.proofs.Prelude.{are_matched, astray, attached_of, auto, autos, busy_by, by_gtids, can_succeed, change_of, code_at}
pub use Rattle.move_laws.proofs.Prelude.{coords_command, drop-append-le, finished, first_about, first_refusal, following, footing, from_start}
pub use Rattle.move_laws.proofs.Prelude.{gtid_command, has_log, has_successor, held_back, is_attached_to, is_given, is_in, is_instance, is_replica_of}
pub use Rattle.move_laws.proofs.Prelude.{is_unknown, is_valid, job_with, lease_at, leases_of, length-by_name, logs_by, logs_in, matched_in}
pub use Rattle.move_laws.proofs.Prelude.{matching as matching_plan, matchings, no_master, no_replica, not-true, only_if, option_and_then, option_or}
pub use Rattle.move_laws.proofs.Prelude.{option_to_list, passed_in, path_of, pseudo_command, range_with_len, refused, regroup_command, replicas_but}
pub use Rattle.move_laws.proofs.Prelude.{replicas_of, same_label, scan_step, scanned_over, seen_source, siblings_of, source_above, source_in}
pub use Rattle.move_laws.proofs.Prelude.{source_of, staged_refusal, swap, under, unders, up, ups, with_bridge, without_log, without_path}
pub use Rattle.move_laws.proofs.Prelude.{without_successor}
pub use Rattle.move_laws.proofs.Rising.{coords-lowest, gtid-lowest, match-lowest, path-lowest, recovery-lowest, takeover-lowest}
pub use Rattle.move_laws.proofs.Trying.{tries}
pub use Rattle.move_laws.specs.Tries.{after_begun}
pub use Rattle.opening_laws.proofs.Openings.{Safe-opened}
pub use Rattle.opening_laws.proofs.Prelude.{HasFiles, Placed-safe, count_own, is_rotate, not_full-files, room_for}
pub use Rattle.opening_laws.proofs.Rooms.{not_full-opened}
pub use Rattle.orch_core.proofs.AuditLog.Changes.{none-at}
pub use Rattle.orch_core.proofs.AuditLog.Finding.{found-passes}
pub use Rattle.orch_core.proofs.AuditLog.Finding
pub use Rattle.orch_core.proofs.AuditLog.Loaded.{kept-audit}
pub use Rattle.orch_core.proofs.AuditLog.Parting.{acknowledged-apart, acknowledged_at-apart, closed-apart, ended-apart}
pub use Rattle.orch_core.proofs.Beginnings.{job-entry, may-take}
pub use Rattle.orch_core.proofs.Claims.{act-fits, act-keeps, nodes-step, step-lapsed}
pub use Rattle.orch_core.proofs.Closed.{closed_by-next, flown-entry}
pub use Rattle.orch_core.proofs.Comes.{Comes, IsAskedFor, asked-can, asked-next, asked-short, command-comes, given-there}
pub use Rattle.orch_core.proofs.Comes as comes
pub use Rattle.orch_core.proofs.CommandOutcomes.Begun.{job-ready}
pub use Rattle.orch_core.proofs.FailureAnalysis.Counting.{first-part, tally-parts}
pub use Rattle.orch_core.proofs.FailureAnalysis.Rows.{action-of, row-code}
pub use Rattle.orch_core.proofs.Finishing.{fewer}
pub use Rattle.orch_core.proofs.InstanceKeeper.BookLaws.{first, last, second, third, to_third}
pub use Rattle.orch_core.proofs.InstanceKeeper.Books.{change_is, empty_is, known_at, leases_set, put_is, rings_set}
pub use Rattle.orch_core.proofs.InstanceKeeper.NoRecovery.{below, row_in-elsewhere}
pub use Rattle.orch_core.proofs.Joining.{joined-rising}
pub use Rattle.orch_core.proofs.KeptRows.Lists.{pairs_head, pairs_tail}
pub use Rattle.orch_core.proofs.KeptRows.LookUps.{changed_by_rising, map_of_rising, row_in-changed, row_in-changed_by}
pub use Rattle.orch_core.proofs.KeptRows.Rising.{map_of-risen}
pub use Rattle.orch_core.proofs.KeptRows.Same.{instance_is}
pub use Rattle.orch_core.proofs.NodeClaims.Owned.{acting_told, kept_of_active, one_active, taken_while_it_lasts}
pub use Rattle.orch_core.proofs.OpeningBook.Following.{Follow-addition, Follow-change, Follow-loaded, Follow-opened, Follow-recoveries, Follow-rings}
pub use Rattle.orch_core.proofs.OpeningBook.Following.{PutsRecovery, Takes, is_eq, length-ringed, names-opening}
pub use Rattle.orch_core.proofs.OpeningBook.Following
pub use Rattle.orch_core.proofs.OpeningBook.Recoveries.{Follow-given, FollowAudit-acknowledged, FollowAudit-book, FollowAudit-closed}
pub use Rattle.orch_core.proofs.OpeningBook.Recoveries.{FollowAudit-loaded, FollowAudit-mapped, FollowAudit-opened, acking-small, closing-small}
pub use Rattle.orch_core.proofs.OpeningBook.Recoveries.{key-number, left-alone, loaded-at, puts-loaded, row-of, stands-at}
pub use Rattle.orch_core.proofs.OperationsProofs.Allowing.{turn-allowed}
pub use Rattle.orch_core.proofs.OperationsProofs.Attempts.{Attempts, IsAttachment, IsMove, IsWaitFor, attempts, crossed-of}
pub use Rattle.orch_core.proofs.OperationsProofs.Attempts as doing
pub use Rattle.orch_core.proofs.OperationsProofs.Sights.{seen-at}
pub use Rattle.orch_core.proofs.Outcomes.{IsEffectFor, decided-effect, same-updated}
pub use Rattle.orch_core.proofs.Periods.{short-in}
pub use Rattle.orch_core.proofs.PermissionProofs.Free.{neither}
pub use Rattle.orch_core.proofs.Prelude.{Act, All-append, All-cons, All-filter, All-head, All-map, All-nil, All-push, All-replicate, All-set}
pub use Rattle.orch_core.proofs.Prelude.{All-tail, All-weaker, AllAllowed, AllJoinWell, Asks, Attached, AuditState, BeginInTurn, Begins, BookState}
pub use Rattle.orch_core.proofs.Prelude.{CanBegin, Change, ClaimAnswer, ClaimState, Command, CommandTurn, Configuration, Decided, Decides, Decision}
pub use Rattle.orch_core.proofs.Prelude.{Detached, Discovers, Effect, Ending, Exchange, Flown, Forgets, Held, Hook, Instance, IsAct, IsAudit}
pub use Rattle.orch_core.proofs.Prelude.{IsAudit-begun, IsBook, IsCommand, IsInRange, IsListOf, IsScenario, IsShaped, IsSlot, IsState, IsStep, IsTurn}
pub use Rattle.orch_core.proofs.Prelude.{IsUnended, JobStep, Keys, Knowledge, Line, Means, Moment, NamesOneOf, Observation, Outcome, Planner, Purpose}
pub use Rattle.orch_core.proofs.Prelude.{Recovers, Recovery, RecoveryRow, Refusal, Reply, Rise, Rise-push, Rise-with, Rise-without, Route, Row, Rule}
pub use Rattle.orch_core.proofs.Prelude.{Scenario, Server, ServerNo, Settings, SourceState, State, Status, Step, TakesOver, Turn, Unended}
pub use Rattle.orch_core.proofs.Prelude.{UnknownInstance, Unreachable, Update, World, acked, acked_so, acknowledged, acknowledged_at}
pub use Rattle.orch_core.proofs.Prelude.{acknowledged_for, act_asks, act_changes, act_claimed, act_in, acts, added_over, after_act, after_done}
pub use Rattle.orch_core.proofs.Prelude.{after_opening, after_put, after_restart, after_row, allowed, apart-begins, append-nil, are_known, asked}
pub use Rattle.orch_core.proofs.Prelude.{asks, attempt_of, audit-loaded, audit_after, audit_of, begun, begun-shaped, book_after as book_decided}
pub use Rattle.orch_core.proofs.Prelude.{book_turned, both_true, both_true as and_parts, by_hand, candidate_of, changed, changes_by, changes_of}
pub use Rattle.orch_core.proofs.Prelude.{claimed, closed, closed_by, closing_by, closing_changes, closing_for, closing_of, command_outcome}
pub use Rattle.orch_core.proofs.Prelude.{configuration_of, counted, counts, decided, decided_of, discovered, discovered_over, done_asks, done_changes}
pub use Rattle.orch_core.proofs.Prelude.{downtime_at, downtime_begun, downtime_ended, downtime_of, downtime_removal, effect_by, empty_book}
pub use Rattle.orch_core.proofs.Prelude.{empty_slots, end_or, ended, ended_so, ending_of, engine, entry_id, eq-eqb, eqb-true, exchange_of, false≢true}
pub use Rattle.orch_core.proofs.Prelude.{first_source, fits, flat_map, flown, flown-allowed, flown-fewer, flown-number, flown-sees, flushes_of}
pub use Rattle.orch_core.proofs.Prelude.{fold-append, forgotten, found-number, front_hook, front_turn, get_or_from_slice_get, given-opened, greatest}
pub use Rattle.orch_core.proofs.Prelude.{greatest_id, has_needed, has_row, head_known, held_run, held_step, instance_at, interrupted, interrupted_at}
pub use Rattle.orch_core.proofs.Prelude.{is_acknowledged, is_block_in_range, is_end_in_range, is_going, is_in_range, is_of, is_opening_change}
pub use Rattle.orch_core.proofs.Prelude.{is_unended, is_within, job-number, job_at, job_by, job_exchanges, job_in, job_observation, job_reply}
pub use Rattle.orch_core.proofs.Prelude.{jobs_turned, joined, known_of, label_at, last_given, last_id-within, last_read, later, latest_recovery}
pub use Rattle.orch_core.proofs.Prelude.{leases_by, leb-true, length-append, length-map, length-replicate, length-set, lines_of, list_any, loaded}
pub use Rattle.orch_core.proofs.Prelude.{loaded_audit, loaded_book, loaded_by, loading, longest-at, longest_block, ltb-false, ltb-true, map_of}
pub use Rattle.orch_core.proofs.Prelude.{means_of, missing, missing_from, most_turns, ne_eqb, next_count, next_reading, nodes_of, number_of}
pub use Rattle.orch_core.proofs.Prelude.{numbers_of, observed_servers, opened_book, opening_instance, option_map, outcome_by, passes_to, period_by}
pub use Rattle.orch_core.proofs.Prelude.{period_of, permitted, pollers, polls, promoted_in, put_change, put_instance, question, raised as row_raised}
pub use Rattle.orch_core.proofs.Prelude.{reads_with, ready-of, rear_hook, rear_turn, recovered, recoveries_in, recovery-begins, recovery_begins}
pub use Rattle.orch_core.proofs.Prelude.{recovery_begun, recovery_job, recovery_refusal, refusal, refusal_by, registered, registering}
pub use Rattle.orch_core.proofs.Prelude.{registering_from, regroup_about, reloaded_audit, reloaded_book, reloaded_moment, reloaded_rows}
pub use Rattle.orch_core.proofs.Prelude.{removal_refusal, renewed, renewed_book, replicates as replicates_turns, reply_of, restart_changes, room_of}
pub use Rattle.orch_core.proofs.Prelude.{round_of, route_of, row_fits, run, run_turns, same_Some, scan-in-turn, scan_outcome, scanned, seen_in}
pub use Rattle.orch_core.proofs.Prelude.{seen_servers, server_at, servers-run, settings_of, settled as state_settled, slice_get_within, source_no}
pub use Rattle.orch_core.proofs.Prelude.{source_servers, start, start_changes, start_moment, start_rows, start_world, status, step, step_reply}
pub use Rattle.orch_core.proofs.Prelude.{stored, stored_over, take-append-add, taken_over, takeover-begins, takeover_begins, takeover_refusal}
pub use Rattle.orch_core.proofs.Prelude.{terms_of, told-can, told-in-turn, told_try, turn_of, turned_at, turns_of, unless_refused, updated, with-past}
pub use Rattle.orch_core.proofs.Prelude.{with_claims, with_job, with_known, with_told, without_job, without_leases}
unfoldable pub use Rattle.orch_core.proofs.Prelude.{by_name, outcome_of}
pub use Rattle.orch_core.proofs.Recoveries.{reloaded-most}
pub use Rattle.orch_core.proofs.RecoveryCore.Beginning.{attached-replica, unrefused}
pub use Rattle.orch_core.proofs.RecoveryCore.Ended.{ending-closed}
pub use Rattle.orch_core.proofs.RecoveryCore.InTurn.{apart-after, scan-blocks}
pub use Rattle.orch_core.proofs.RecoveryCore.Trying.{recovery-may, takeover-may}
pub use Rattle.orch_core.proofs.RecoveryPlans.Allowed.{taken-allowed}
pub use Rattle.orch_core.proofs.RecoveryPlans.Walking.{KeepsAlways, always, kept-whole}
pub use Rattle.orch_core.proofs.Servers.{servers-start}
pub use Rattle.orch_core.proofs.Sources.{sources-run}
pub use Rattle.orch_core.proofs.Starts.{all-from, all-loading, all-missing, all-opening, all-registering, fits-opening, moment-within, opened-is}
pub use Rattle.orch_core.proofs.Starts.{same-opened, sources-start}
pub use Rattle.orch_core.proofs.States.{Allowed-step, names-loaded, one_known, reading_known, same-stored}
pub use Rattle.orch_core.proofs.Turned.{All-found}
pub use Rattle.orch_core.proofs.UnendedJobs.Going.{flown-ready, recovery-promotes}
pub use Rattle.orch_core.proofs.UnendedJobs.Numbers.{Rise-within, above, without-past}
pub use Rattle.orch_core.specs.After.{after_job, after_tick}
pub use Rattle.orch_core.specs.AskingCommands.Answers.{is_known}
pub use Rattle.orch_core.specs.AuditLog.Audits.{acking, closing, is_open, recovery_at}
pub use Rattle.orch_core.specs.BinlogCoords.Log.{file_start}
pub use Rattle.orch_core.specs.BookCommands.Decisions.{rows_of}
pub use Rattle.orch_core.specs.BookCommands.Decisions
pub use Rattle.orch_core.specs.BookCommands.declared.decided.Effect.TheVariants as effect
pub use Rattle.orch_core.specs.CommandOutcomes.Jobs.{plan_by}
pub use Rattle.orch_core.specs.CommandOutcomes.Outcomes.{about, about as given_or, first_of, removal, stays}
pub use Rattle.orch_core.specs.CommandOutcomes.Outcomes
pub use Rattle.orch_core.specs.CommandOutcomes.declared.command.Update.TheVariants as update
pub use Rattle.orch_core.specs.Commands.Refusals
pub use Rattle.orch_core.specs.Commands.Unknown.{unknown_of}
pub use Rattle.orch_core.specs.Commands.declared.cause.Cause.TheVariants as cause
pub use Rattle.orch_core.specs.Commands.declared.kinds.CoordsCommand.TheVariants as coords_kind
pub use Rattle.orch_core.specs.Commands.declared.kinds.GtidCommand.TheVariants as gtid_kind
pub use Rattle.orch_core.specs.Commands.declared.kinds.MatchCommand.TheVariants as matching
pub use Rattle.orch_core.specs.Commands.declared.kinds.PathCommand.TheVariants as command
pub use Rattle.orch_core.specs.Commands.declared.line.Line.TheVariants as line
pub use Rattle.orch_core.specs.Commands.declared.name.CommandName.{CommandName}
pub use Rattle.orch_core.specs.Commands.declared.name.CommandName.TheVariants as name
pub use Rattle.orch_core.specs.Commands.declared.refusal.Refusal.TheVariants.{NoCandidate, NoPath, NotMaster, NotReplica}
pub use Rattle.orch_core.specs.Commands.declared.refusal.Refusal.TheVariants as commands_refusal
pub use Rattle.orch_core.specs.Commands.declared.route.Decision.TheVariants as decision
pub use Rattle.orch_core.specs.Commands.declared.route.Planner.TheVariants as planner
pub use Rattle.orch_core.specs.Commands.declared.route.Route.TheVariants as route
pub use Rattle.orch_core.specs.FailureAnalysis.Analysis.{entry_of, is_connected}
pub use Rattle.orch_core.specs.FailureAnalysis.Table.{AreCounts, none_replicates}
unfoldable pub use Rattle.orch_core.specs.FailureAnalysis.Table.{code_of}
pub use Rattle.orch_core.specs.FailureAnalysis.declared.code.Action.TheVariants as action
pub use Rattle.orch_core.specs.InstanceKeeper.Book.{HasKnownSource, after_change, after_discovery, book_rows, discovery_change, end_after, first_seen}
pub use Rattle.orch_core.specs.InstanceKeeper.Book.{renewal, rule_after, shown_by, store_change}
pub use Rattle.orch_core.specs.InstanceKeeper.Bridges.{ringed}
pub use Rattle.orch_core.specs.InstanceKeeper.Leases.{given_back}
pub use Rattle.orch_core.specs.KeptRows.Ranges.{IsKeyInRange}
pub use Rattle.orch_core.specs.KeptRows.Rows.{changed_by, row_after, row_at, sort_key_of}
pub use Rattle.orch_core.specs.KeptRows.Same.{same_instance}
pub use Rattle.orch_core.specs.KeptRows.Servers.{ending_servers, is_of_book, key_servers}
pub use Rattle.orch_core.specs.KeptRows.declared.row.Change.TheVariants as change
pub use Rattle.orch_core.specs.KeptRows.declared.row.Key.{Key}
pub use Rattle.orch_core.specs.KeptRows.declared.row.Key.TheVariants as key
pub use Rattle.orch_core.specs.KeptRows.declared.row.Row.TheVariants as kept_row
pub use Rattle.orch_core.specs.KeptRows.declared.row.Table.{Table}
pub use Rattle.orch_core.specs.KeptRows.declared.row.Table.TheVariants as table
pub use Rattle.orch_core.specs.Knowledge.Closings.{closing_at}
pub use Rattle.orch_core.specs.MovesCoords.Plans as coords_plans
pub use Rattle.orch_core.specs.MovesGtid.Plans as gtid_plans
pub use Rattle.orch_core.specs.NodeClaims.Claims.{IsNode}
pub use Rattle.orch_core.specs.NodeClaims.Claims as claims
pub use Rattle.orch_core.specs.NodeClaims.Reached.IsReached.{Acted, Claimed, Later, Made, Released}
pub use Rattle.orch_core.specs.NodeClaims.declared.claims.ClaimAnswer.TheVariants as claim
pub use Rattle.orch_core.specs.Nodes.{claim_changes_by, holder_after, holder_by, is_kept_so, release_changes, release_changes_by}
pub use Rattle.orch_core.specs.OpeningBook.Counting.{later_read}
pub use Rattle.orch_core.specs.OpeningBook.Following.{IsAudited, IsKeptFor}
pub use Rattle.orch_core.specs.OpeningBook.Opening.{blocks_given, interrupting}
pub use Rattle.orch_core.specs.Operations.Deeds as deed
pub use Rattle.orch_core.specs.Operations.Jobs.{with_seen}
pub use Rattle.orch_core.specs.Operations.Turns.{Ends, Goes, Stops, Turned, attached_anew, bridge_at, by_ops, crossing_of, going, hands_after}
pub use Rattle.orch_core.specs.Operations.Turns.{is_moved, read_by, same_again, settled}
pub use Rattle.orch_core.specs.Operations.Turns
pub use Rattle.orch_core.specs.Operations.declared.op.Crossing.TheVariants as cross
pub use Rattle.orch_core.specs.Operations.declared.op.Op.TheVariants as op
pub use Rattle.orch_core.specs.Operations.declared.step.JobStep.TheVariants as jobstep
pub use Rattle.orch_core.specs.OrchBase.declared.recovery.Ending.TheVariants as ending
pub use Rattle.orch_core.specs.OrchBase.declared.rule.Rule.TheVariants as rule
pub use Rattle.orch_core.specs.OrchBase.declared.server.IoState.{IoState}
pub use Rattle.orch_core.specs.OrchBase.declared.server.IoState.TheVariants as io
pub use Rattle.orch_core.specs.Permission.Lists
pub use Rattle.orch_core.specs.Permission.declared.case.Check.TheVariants as check
pub use Rattle.orch_core.specs.PseudoMatch.Plans as match_plans
pub use Rattle.orch_core.specs.RecoveryCore.Begun
pub use Rattle.orch_core.specs.RecoveryCore.Recoveries.{held_off, purpose_by, recovery_purpose, refusal_for}
pub use Rattle.orch_core.specs.RecoveryCore.Recoveries
pub use Rattle.orch_core.specs.RecoveryCore.Takeovers.{case_of, row}
pub use Rattle.orch_core.specs.RecoveryCore.Tries.{kind_by}
pub use Rattle.orch_core.specs.RecoveryPlans.Beginning.{first_ops}
pub use Rattle.orch_core.specs.RecoveryPlans.Deciding
pub use Rattle.orch_core.specs.RecoveryPlans.Moves as move
pub use Rattle.orch_core.specs.RecoveryPlans.Recoveries as RecoveryPlans
pub use Rattle.orch_core.specs.RecoveryPlans.Taking as taking
pub use Rattle.orch_core.specs.RecoveryPlans.declared.means.Means.TheVariants as means
pub use Rattle.orch_core.specs.RecoveryPlans.declared.purpose.Purpose.TheVariants as purpose
pub use Rattle.orch_core.specs.RecoveryPlans.declared.stage.Stage.TheVariants as stage
pub use Rattle.orch_core.specs.RecoveryPlans.declared.task.Way.TheVariants as way
pub use Rattle.orch_core.specs.RefusedCommands.{IsDone, recovery_refused, takeover_given, takeover_refused}
pub use Rattle.orch_core.specs.RefusedCommands
pub use Rattle.orch_core.specs.Regroup.Permits as path_permits
pub use Rattle.orch_core.specs.Regroup.Plans as path_plans
pub use Rattle.orch_core.specs.Replies.{claim_reply, done_reply}
pub use Rattle.orch_core.specs.Scenarios.ValidTurns.{IsNumberOf, is_rotate_step, is_write_step}
pub use Rattle.orch_core.specs.Scenarios.ValidTurns as Scenarios
pub use Rattle.orch_core.specs.ServerModel.Attach.{after_attach as attached_world}
pub use Rattle.orch_core.specs.ServerModel.Gtids.{io_of, is_up, source_at, status_in}
pub use Rattle.orch_core.specs.ServerModel.Run.{is_write}
pub use Rattle.orch_core.specs.ServerWords.declared.answers.ApplyAnswer.TheVariants as answers
pub use Rattle.orch_core.specs.ServerWords.declared.answers.RotateAnswer.TheVariants as rotating
pub use Rattle.orch_core.specs.ServerWords.declared.answers.WriteAnswer.TheVariants as wrote
pub use Rattle.orch_core.specs.ServerWords.declared.attach.Spot.TheVariants as spot
pub use Rattle.orch_core.specs.ServerWords.declared.changes.Ask.TheVariants as asking
pub use Rattle.orch_core.specs.ServerWords.declared.status.StatusFault.TheVariants as seeing
pub use Rattle.orch_core.specs.Settling
pub use Rattle.orch_core.specs.Starts.{start_claim}
pub use Rattle.orch_core.specs.TurnExchanges.{act_exchanges, done_exchanges}
pub use Rattle.orch_core.specs.Turns.declared.reply.Reply.TheVariants as answered
pub use Rattle.orch_core.specs.Turns.declared.turn.Act.TheVariants as act
pub use Rattle.orch_core.specs.Turns.declared.turn.Step.TheVariants as turns_step
pub use Rattle.orch_core.specs.Turns.declared.turn.Turn.TheVariants as turn
pub use Rattle.orch_core.specs.UnendedJobs.Hooked.{no_docket}
pub use Rattle.orch_core.specs.UnendedJobs.Jobs
pub use Rattle.orch_core.specs.UnendedJobs.declared.unended.Unended.TheVariants as unended
pub use Rattle.recovery_covers.proofs.JobLaws.Begun.{freed-others, kept-leases, others-left}
pub use Rattle.recovery_covers.proofs.JobLaws.Bridging.{stands-by}
pub use Rattle.recovery_covers.proofs.JobLaws.Listed.{given-leases, taken-leases}
pub use Rattle.recovery_covers.proofs.JobLaws.Lists.{All-at, All-ring}
pub use Rattle.recovery_covers.proofs.JobLaws.Marking.{logs-place, logs-prefix, read-servers}
pub use Rattle.recovery_covers.proofs.JobLaws.Matching.{match-well}
pub use Rattle.recovery_covers.proofs.JobLaws.Showing.{Bridged-seen, Shows-seen}
pub use Rattle.recovery_covers.proofs.JobLaws.Spanning.{spans-by}
pub use Rattle.recovery_covers.proofs.JobLaws.Turns.{not-moved, turn-sound}
pub use Rattle.recovery_covers.proofs.Making.{Attaches}
pub use Rattle.recovery_covers.proofs.RecoveryLaws.Begun.{first-free, first-held}
pub use Rattle.recovery_covers.proofs.RecoveryLaws.Effects.{IsMoved, about-moves, back-moves, open-moves, shut-moves, way-moves}
pub use Rattle.recovery_covers.proofs.RecoveryLaws.Standing.{Under-keeps}
pub use Rattle.recovery_covers.proofs.ReplicationLaws.Applies.{no_skipped}
pub use Rattle.recovery_covers.proofs.ReplicationLaws.Runs as exchanges
pub use Rattle.recovery_covers.specs.JobLaws.Flights.{IsShown, IsShownBridged, Sound, job_turned, no_leases}
pub use Rattle.recovery_covers.specs.JobLaws.Flights
pub use Rattle.recovery_covers.specs.JobLaws.Footing.{finds, learn, source_shown}
pub use Rattle.recovery_covers.specs.JobLaws.Held.{AllShow, HeldJob}
pub use Rattle.recovery_covers.specs.JobLaws.Leases as JobLaws
pub use Rattle.recovery_covers.specs.JobLaws.Matched.{AllMeet, ArePlaced, finds_match, matched_by}
pub use Rattle.recovery_covers.specs.JobLaws.Passages.{Beginning}
pub use Rattle.recovery_covers.specs.JobLaws.Passages as pass
pub use Rattle.recovery_covers.specs.JobLaws.Sound.{AllBridged}
pub use Rattle.recovery_covers.specs.RecoveryLaws.Standing.{IsWritable, KeepsSource}
pub use Rattle.run_laws.specs.Acting.{ActiveActAlike, HeldLastAMinute, IsRestartAndClaim, LapsedKeepNothing, PassingRestarts, RenewingClaimsAlone}
pub use Rattle.run_laws.specs.Acting.{TakenChangeNothing}
pub use Rattle.run_laws.specs.Aims.{IsAbout, IsAimed, IsAskedBy, IsAskedIn, IsAskedOf, IsFor}
pub use Rattle.run_laws.specs.Answering.{IsUnasked, PassesFilter, ScansBeginUnasked, ScansTryByTable}
pub use Rattle.run_laws.specs.Begins.{BeginApartInTurn, BeginsApart, NamesReplicasOnce, entries_of}
pub use Rattle.run_laws.specs.BegunJobs.{BegunJob, begun_by, begun_of, entry_kept, of_plan, of_try, recovering, taking_by, taking_over, with_entry}
pub use Rattle.run_laws.specs.Claims.{ActsWhereActive, ClaimsAreReached, ClaimsWait, IsClaimRow, ItsClaimIsKept, LapsedDoesNothing, OneIsActive}
pub use Rattle.run_laws.specs.Claims.{PassingLeavesNewJobs, PassingLeavesNoJob, PassingStartsAgain, claim_by_row, claim_key, claim_row}
pub use Rattle.run_laws.specs.Entries.{attempt_in, entries_begun, recoveries_begun, recoveries_by, recoveries_done, recoveries_in_act, recoveries_of}
pub use Rattle.run_laws.specs.Entries.{recoveries_scanned, scan_in, takeovers_of, tried}
pub use Rattle.run_laws.specs.Failures.{IsBefallen, PlansAreDone, PlansFailForWhatBefell, SpendsWaitsLast}
pub use Rattle.run_laws.specs.Fates.{AuditIs, RestartKeepsAll, acked_in, cluster_acked, cluster_decided, cluster_of, entry_by_job, entry_in_act}
pub use Rattle.run_laws.specs.Fates.{entry_in_done, entry_of_turn, entry_then}
pub use Rattle.run_laws.specs.Flights.{act_passages, by_command, by_discovery, by_instance, by_job, by_permission, by_recoveries, by_recovery}
pub use Rattle.run_laws.specs.Flights.{by_removal, by_route, by_takeover, by_try, done_passages, flight_of, moment_at, passages_of, takes}
pub use Rattle.run_laws.specs.Flights.{takes_first, takes_over}
pub use Rattle.run_laws.specs.Following.{RunClaimsAreFollowed}
pub use Rattle.run_laws.specs.Hands.{HoldsNone, PlansReturn, Returns, StartsAll, StopsOne}
pub use Rattle.run_laws.specs.JobEntries.{EntriesHaveJobs, entries_in, open_ids}
pub use Rattle.run_laws.specs.Leading.{Below, HasNoOwnSource, HasPath, LeadsAsTold, PlansLeadAsTold, below_after, led_by, led_by_all, lines_by}
pub use Rattle.run_laws.specs.Leading.{lines_of_ops, read_below}
pub use Rattle.run_laws.specs.Lines.{AreLinesOf}
pub use Rattle.run_laws.specs.LinesHold.{HoldOf, PlansHold}
pub use Rattle.run_laws.specs.Lowest.{RefusedByLowest, checks_by, plan_checks, recover_checks, takeover_checks_by, takes_checks}
pub use Rattle.run_laws.specs.Marks.{EndsAt, EndsStill}
pub use Rattle.run_laws.specs.Moments.{IsPast, JobsRise, LastJobNeverSinks, NothingIsToCome, PassesTime}
pub use Rattle.run_laws.specs.Prelude.{Befell, Coordinates, Failure, Follow, FollowAudit, Gtids, IsApart, IsNotFull, IsReached, IsReady, IsRising}
pub use Rattle.run_laws.specs.Prelude.{Kind, Matches, Paths, after_store, apply, as_row, attach_at, attach_auto, busy_given, cause_name}
pub use Rattle.run_laws.specs.Prelude.{claim_changes, claim_or, claims_after, counts_of, done_with, entries_put, exchanges_at, is_before}
pub use Rattle.run_laws.specs.Prelude.{leases_after, put_recovery, reading, recovery_try, refusal_at, replicates, rotate, row_in, slot_at, sort_key}
pub use Rattle.run_laws.specs.Prelude.{taken, takeover_try, unknown_in, unreached, write}
pub use Rattle.run_laws.specs.Readings.{DiscoveriesRead, InstancesStay, IsDiscovered, IsForgotten, IsKeptSo, IsStoredBy, JobsStore}
pub use Rattle.run_laws.specs.Readings.{OpeningsGiveNumbers, PollsRead, PollsStore, ReadingsNeverSink, RestartsCountOn, as_read, deed_in, first_op}
pub use Rattle.run_laws.specs.Readings.{shown_at, unless_hook}
pub use Rattle.run_laws.specs.Ready.{AreShort, Ready}
pub use Rattle.run_laws.specs.Runs.{ComesBefore, ComesBy, ComesTo, ComesWithin, IsBegun}
pub use Rattle.run_laws.specs.States.{HeldState, SoundState}
pub use Rattle.run_laws.specs.Stopping.{PlansStartAgain, StartsWhatItStops, after_asking, after_deed, left_stopped}
pub use Rattle.run_laws.specs.Tables.{AnswersWrites, AttachesBySet, AttachesByTable, CountsByInstances, CountsReplicas, EndsInTime, GoesOn}
pub use Rattle.run_laws.specs.Tables.{IsConnected, ShowsServer, StatusesByTable}
pub use Rattle.run_laws.specs.Tables.{KeepsSixteen, Replicates, RunsAllServers, ServersByTable, StartsAgain, ThreadsByTable, WritesByTable}
pub use Rattle.run_laws.specs.Waits.{BegunMayWait, JobsMayWait, MayWait}
pub use Rattle.unended_laws.proofs.Applying.{Spares, StaysSo, outside-stays-so, request-made, run-goes, same-stays-so, started-goes}
pub use Rattle.unended_laws.proofs.Begun.{begin-held, begin-sound, recovery-held, recovery-sound}
pub use Rattle.unended_laws.proofs.Beside.{apart-held, apart-sound, restart-held, restart-sound}
pub use Rattle.unended_laws.proofs.Cores.{core-found, cores-joined, cores-replaced, cores-without}
pub use Rattle.unended_laws.proofs.CoveredTurning.{all-turned, leased-by, world-then}
pub use Rattle.unended_laws.proofs.Prelude.{After, All-contains, All-find, AllMayPass, AllPassWell, AreOwn, AreReplicas, Ask, Attach, AttachAuto}
pub use Rattle.unended_laws.proofs.Prelude.{AttachFault, Bridge, Cause, Coord, Deed, Docket, Does, Flight, HasLeases, HeldJobs, Hooked, HookState}
pub use Rattle.unended_laws.proofs.Prelude.{HostPort, IsAny, IsApart as IsApartPassage, IsApplying, IsHeldBeside, IsLeased, IsListed, IsQuiet}
pub use Rattle.unended_laws.proofs.Prelude.{IsSoundBeside, IsUnder, Job, Leases, Makes, MayPass, Meets, NamesLogging, Op, Passage, PassesWell, Placed}
pub use Rattle.unended_laws.proofs.Prelude.{Position, Recovery as RecoveryJob, Request, Safe, Sight, SoundJobs, Spans, Spot, Stage, StandsIn, Stays}
pub use Rattle.unended_laws.proofs.Prelude.{Stays-keeps, Taken, Without, WriteAnswer, after, after_answer, after_attach_auto as attached_set}
pub use Rattle.unended_laws.proofs.Prelude.{after_change as changed_server, after_turn, after_write, as_turn, at_with_same, attach_answer}
pub use Rattle.unended_laws.proofs.Prelude.{attach_answer_of, attached_auto, attached_no, attached_to, auto_coord, borne, bridge_in, by_deed}
pub use Rattle.unended_laws.proofs.Prelude.{can_attach, core_by, core_of, decided_by, deed-still, deed_of, ended_by, entered, fate_of, filter_passes}
pub use Rattle.unended_laws.proofs.Prelude.{follows_no_more, fresh-own, ground_of, healed, hooked, hooked-has, is_attached, is_outside, is_takeover}
pub use Rattle.unended_laws.proofs.Prelude.{kept-own, leased_to, leases-stored_if, leaver, made-well, match_logs, moved, moves, observed, other-after}
pub use Rattle.unended_laws.proofs.Prelude.{outside-stays, own_txn, passage_of, passages_by, passed, passing, position_of, replaced, restarts}
pub use Rattle.unended_laws.proofs.Prelude.{ring_at, rotate_answer, same-head, same-no, same-tail, seen_of, server_of, shown-own, shown_of, stored_if}
pub use Rattle.unended_laws.proofs.Prelude.{taken-sound, times, took, turn-leased, turned, turned_by, unleased-run, uuids, with_server}
pub use Rattle.unended_laws.proofs.Prelude.{without_leases as freed_leases, world-stored_if, write_answer}
pub use Rattle.unended_laws.proofs.Turning.{number-held, number-may, number-sound, number-well}
pub use Rattle.unended_laws.specs.Upkeep
