-- What its proofs cite of others.
pub use Rattle.std.proofs.Math.Seq.{take-append_seam}
pub use Rattle.std.proofs.lemmas.Bool.{cases_eq, cond-false, cond-true, not-false}
pub use Rattle.std.specs.Cmp.Lexicographic.{same_text}
pub use Rattle.std.specs.List.{All, after_last, before_last}
pub use Rattle.read_back_laws.proofs.Prelude.{Data, Entry, Flushed, Given, Grounded, Head, IsChecked, IsOf, IsWorldOf, IsWritten, Items, LaysOut, Log}
pub use Rattle.read_back_laws.proofs.Prelude.{MAX_SCENARIO_LEN, Opened, Part, Root, ServerInit, Took, TooLong, Txn, Under, appended, at_server}
pub use Rattle.read_back_laws.proofs.Prelude.{at_source, bind-ok, coord_or_fails, digits_value, each_from, entry_at_end, exec_of, first_met, flush}
pub use Rattle.read_back_laws.proofs.Prelude.{flushed_at, flushed_times, from-ok, history_at, inits_from, inits_of, is_at_or_before, joined_by-each}
pub use Rattle.read_back_laws.proofs.Prelude.{json_in, laid, laid_after, length-push, listed_history, listed_names, listed_uuids, log_by, made_of}
pub use Rattle.read_back_laws.proofs.Prelude.{maybe, maybe-ok, nat_tests, next_txn, of_source, opened, opened_from, opened_server, opened_world}
pub use Rattle.read_back_laws.proofs.Prelude.{opening-same, origin_elsewhere, other_cluster, push, read_of, same_cluster, same_Ok, scenario_in_sound}
pub use Rattle.read_back_laws.proofs.Prelude.{server-ok, singles, slice_get-get_or, sound_checked, source_state, text_in, with-ok}
unfoldable pub use Rattle.read_back_laws.proofs.Prelude.{IsTidy, coord_at, coord_in, dump_text, dumped_scenario, listed_in, scenario_from}
unfoldable pub use Rattle.read_back_laws.proofs.Prelude.{scenario_in, scenario_with, server_in, servers_in}
pub use Rattle.run_laws.proofs.BinlogCoords.Places.{place-parts, same_coord-true}
pub use Rattle.run_laws.proofs.Flown.{flown, rings-loaded}
pub use Rattle.run_laws.proofs.JobLaws.Marking.{match-parts}
pub use Rattle.run_laws.proofs.JobLaws.Modes.{gtid-run}
pub use Rattle.run_laws.proofs.JobLaws.Spanning.{bridge-parts}
pub use Rattle.run_laws.proofs.JobLaws.Turns.{due-of, with-one}
pub use Rattle.run_laws.proofs.MoveLaws.Firsts.{about-permitted, each-none, test-false}
pub use Rattle.run_laws.proofs.MoveLaws.Firsts
pub use Rattle.run_laws.proofs.Naming.{succeeds}
pub use Rattle.run_laws.proofs.OpeningsProofs.Joined.{pair_of}
pub use Rattle.run_laws.proofs.OpeningsProofs.Members.{get-push_new}
pub use Rattle.run_laws.proofs.OpeningsProofs.Sizes.{singles-part}
pub use Rattle.run_laws.proofs.OperationsProofs.Attempts.{attachment_in}
pub use Rattle.run_laws.proofs.OperationsProofs.Attempts as doing
pub use Rattle.run_laws.proofs.OrchCore.Comes as comes
pub use Rattle.run_laws.proofs.OrchCore.Starts.{Fits-start}
pub use Rattle.run_laws.proofs.Passing.{step-may}
pub use Rattle.run_laws.proofs.Prelude.{Act, All-append, All-at, All-cons, All-filter, All-find, All-head, All-map, All-nil, All-push, All-replicate}
pub use Rattle.run_laws.proofs.Prelude.{All-ring, All-set, All-tail, All-take, All-weaker, AllAllowed, Allowed-step, AllShow, Ask, Asks, Attach}
pub use Rattle.run_laws.proofs.Prelude.{AttachAuto, Attached, Attempts, AuditState, Begins, BookState, Bridge, Cause, Comes, ComesTo, Command}
pub use Rattle.run_laws.proofs.Prelude.{CommandTurn, Coord, Coordinates, CoordsCommand, Decides, Deed, Detached, Discovers, Docket, Does, Exchange}
pub use Rattle.run_laws.proofs.Prelude.{Flight, Flown, Forgets, GtidCommand, Gtids, HeldJob, HeldState, HostPort, IsAskedFor, IsHeldBeside, IsMove}
pub use Rattle.run_laws.proofs.Prelude.{IsQuiet, IsScenario, IsStep, IsTurn, IsWaitFor, Job, JobStep, Line, MatchCommand, Matches, Means, Moment}
pub use Rattle.run_laws.proofs.Prelude.{Observation, Op, Outcome, Passage, Path, PathCommand, Paths, Placed, Placed-safe, Planner, Position, Purpose}
pub use Rattle.run_laws.proofs.Prelude.{Ready, Recovers, RecoveryJob as Recovery, Refusal, Request, Route, Row, Safe-opened, Scenario, Server}
pub use Rattle.run_laws.proofs.Prelude.{ServerNo, Settings, Sight, SourceState, Spot, Stage, Staged, State, Status, Step, Stops, Taken, TakesOver}
pub use Rattle.run_laws.proofs.Prelude.{Turn, Turned, Unended, Without, World, act_exchanges, act_in, act_passages, actionable_in, after, after_try}
pub use Rattle.run_laws.proofs.Prelude.{after_turn, again, again_auto, all-turned, allowed, and_parts, at_with_same, attach_answer, attached_anew}
pub use Rattle.run_laws.proofs.Prelude.{attempt_in, attempts, auto, autos, borne, bridge_at, bridge_in, by_deed, by_discovery, by_hand, by_instance}
pub use Rattle.run_laws.proofs.Prelude.{by_job, by_ops, by_permission, by_recoveries, by_recovery, by_removal, by_route, by_takeover, by_try}
pub use Rattle.run_laws.proofs.Prelude.{can_attach, command-comes, command_outcome, core-found, core_of, crossing_of, decided_by, deed_of}
pub use Rattle.run_laws.proofs.Prelude.{done_exchanges, done_passages, ended_by, engine, entered, eqb-true, exchange_of, exchanges_at, false≢true}
pub use Rattle.run_laws.proofs.Prelude.{fate_of, file_start, finds, finished, first_about, first_refusal, flat_map, flight_of, flown-allowed}
pub use Rattle.run_laws.proofs.Prelude.{flushes_of, follows_no_more, footing, from_start, given-opened, greatest_id, ground_of, has_log, hooked}
pub use Rattle.run_laws.proofs.Prelude.{hooked-has, instance_at, is_attached, is_going, is_moved, is_replica_of, is_valid, job_by, job_exchanges}
pub use Rattle.run_laws.proofs.Prelude.{job_in, job_with, jobs_turned, leases_of, leaver, leb-true, list_any, loaded_book, ltb-true, match_logs}
pub use Rattle.run_laws.proofs.Prelude.{matching_plan as matching, matchings, means_of, moment_at, moved, neither, next_count, not-moved, numbers_of}
pub use Rattle.run_laws.proofs.Prelude.{observed, option_and_then, option_map, option_or, or_parts, own_txn, passages_of, passed, passing, path_of}
pub use Rattle.run_laws.proofs.Prelude.{plan_by, pollers, position_of, promoted_in, purpose_by, read_by, reading, recoveries_scanned, recovery_begins}
pub use Rattle.run_laws.proofs.Prelude.{recovery_job, recovery_purpose, recovery_refusal, recovery_try, refusal_by, regroup_about, removal_refusal}
pub use Rattle.run_laws.proofs.Prelude.{replicas_but, replicas_of, restarts, ring_at, ringed, room_of, rotate_answer, route_of, run, run_turns}
pub use Rattle.run_laws.proofs.Prelude.{same_again, same_label, same_Some, scan_in, scan_outcome, scan_step, scanned, scanned_over, seen_in, seen_of}
pub use Rattle.run_laws.proofs.Prelude.{server_at, settings_of, settled, shown_of, siblings_of, source_above, source_no, source_of, source_shown}
pub use Rattle.run_laws.proofs.Prelude.{staged_refusal, start, start_changes, start_moment, start_world, status, step, stored_if, swap}
pub use Rattle.run_laws.proofs.Prelude.{takeover_begins, takeover_refusal, takeover_try, told_try, took, turn-allowed, turn_of, turned, turned_by}
pub use Rattle.run_laws.proofs.Prelude.{turns_of, under, unders, unless_refused, unrefused, up, ups, with_seen, with_server, with_told, write_answer}
pub use Rattle.run_laws.proofs.RecoveryLaws.Choosing.{All-latest}
pub use Rattle.run_laws.proofs.RecoveryLaws.Deciding.{decides-held}
pub use Rattle.run_laws.proofs.RecoveryLaws.Taking.{due, source-is}
pub use Rattle.run_laws.proofs.RecoveryPlans.Choices.{All-chosen}
pub use Rattle.run_laws.proofs.RecoveryPlans.Leading.{moved-leads}
pub use Rattle.run_laws.proofs.RecoveryPlans.Walking.{Keeps, decisions-keep, kept-along, made-along, taken-walks}
pub use Rattle.run_laws.proofs.ReplicationLaws.Changes.{Asked, Becomes, Befallen, Leaves, leaves}
pub use Rattle.run_laws.proofs.ReplicationLaws.Changes as changes
pub use Rattle.run_laws.proofs.ReplicationLaws.Runs.{Grows-run, Placed-after, Placed-run}
pub use Rattle.run_laws.proofs.ReplicationLaws.Worlds.{at_with_other}
pub use Rattle.run_laws.proofs.RunLaws.{Goes, Goes-comes, Goes-start, Goes-step}
pub use Rattle.run_laws.proofs.ScenariosProofs.Rooms.{flushes_of-few, room_of-few}
pub use Rattle.run_laws.proofs.ServerModel.Applied.{step_from}
pub use Rattle.run_laws.proofs.ServerModel.LogSizes.{files-push}
pub use Rattle.run_laws.proofs.StartStates.{Opens-start, opened-rings}
pub use Rattle.run_laws.proofs.TurnJobs.{turn-keeps}
pub use Rattle.run_laws.proofs.WorldOpenings.Opened.{server_at-opened}
pub use Rattle.run_laws.proofs.WorldOpenings.OpenedWorlds.{CanStand-opened, exec_of-root, read_of-root, source-given}
pub use Rattle.run_laws.proofs.Worlds.{world-turn}
pub use Rattle.run_laws.specs.BinlogCoords.Grammar.{coord_of, extension_of, file_at, is_extension, is_plain, number_at, pos_at, value_within}
pub use Rattle.run_laws.specs.BinlogCoords.Log.{end_coord, has_place, is_file_start, next_after, same_coord, start_coord, touches}
pub use Rattle.run_laws.specs.BinlogCoords.declared.Next.{Next}
pub use Rattle.run_laws.specs.BinlogCoords.declared.Next.TheVariants as binlog_next
pub use Rattle.run_laws.specs.BinlogCoords.declared.text.CoordFault.{CoordFault}
pub use Rattle.run_laws.specs.BinlogCoords.declared.text.CoordFault.TheVariants.{NoColon}
pub use Rattle.run_laws.specs.CommandOutcomes.Jobs.{ops_of, refusal_about}
pub use Rattle.run_laws.specs.CommandOutcomes.Outcomes
pub use Rattle.run_laws.specs.Commands.declared.kinds.CoordsCommand.TheVariants as coords
pub use Rattle.run_laws.specs.Commands.declared.kinds.GtidCommand.TheVariants as gtids
pub use Rattle.run_laws.specs.Commands.declared.kinds.MatchCommand.TheVariants as matches
pub use Rattle.run_laws.specs.Commands.declared.kinds.PathCommand.TheVariants as regroups
pub use Rattle.run_laws.specs.Commands.declared.line.Line.TheVariants.{Follows}
pub use Rattle.run_laws.specs.Commands.declared.line.Line.TheVariants as CommandsTheVariants
pub use Rattle.run_laws.specs.Commands.declared.refusal.Refusal.TheVariants as commands_refusal
pub use Rattle.run_laws.specs.Commands.declared.route.Route.TheVariants
pub use Rattle.run_laws.specs.FailureAnalysis.declared.entry.Entry as FailureAnalysis
pub use Rattle.run_laws.specs.Flights.{by_poll, discovers}
pub use Rattle.run_laws.specs.InstanceKeeper.Bridges.{has_own, latest_that}
pub use Rattle.run_laws.specs.InstanceKeeper.Bridges
pub use Rattle.run_laws.specs.JobLaws.Footing.{finds_crossing, is_under, logs_at}
pub use Rattle.run_laws.specs.JobLaws.Passages.{slot_of}
pub use Rattle.run_laws.specs.JobLaws.Passages as pass
pub use Rattle.run_laws.specs.MovesCoords.Permits as coords_permits
pub use Rattle.run_laws.specs.MovesCoords.Plans.{master_taken, moved_below, moved_up, replicas_moved_up, repointed, repointed_auto, repointed_by}
pub use Rattle.run_laws.specs.MovesCoords.Plans.{siblings_taken}
pub use Rattle.run_laws.specs.MovesCoords.Plans as coords_plans
pub use Rattle.run_laws.specs.MovesGtid.Permits as gtid_permits
pub use Rattle.run_laws.specs.MovesGtid.Plans as gtid_plans
pub use Rattle.run_laws.specs.Openings.Flaws.{flaws}
pub use Rattle.run_laws.specs.Openings.Servers.{number_of, parts_of, sources}
pub use Rattle.run_laws.specs.Openings.Servers
pub use Rattle.run_laws.specs.Openings.Sound.{IsSound}
pub use Rattle.run_laws.specs.Operations.Deeds as deed
pub use Rattle.run_laws.specs.Operations.Jobs.{match_found}
pub use Rattle.run_laws.specs.Operations.Matching.{match_between}
pub use Rattle.run_laws.specs.Operations.Turns.{aim_of, by_match, by_set, crossed, failed, next, until_by}
pub use Rattle.run_laws.specs.Operations.Turns as attempt
pub use Rattle.run_laws.specs.Operations.declared.matching.Match.{Match}
pub use Rattle.run_laws.specs.Operations.declared.matching.MatchFault.TheVariants as fault
pub use Rattle.run_laws.specs.Operations.declared.op.Aim.{Aim}
pub use Rattle.run_laws.specs.Operations.declared.op.Aim.TheVariants as aim
pub use Rattle.run_laws.specs.Operations.declared.op.Crossing.{Crossing}
pub use Rattle.run_laws.specs.Operations.declared.op.Crossing.TheVariants as cross
pub use Rattle.run_laws.specs.Operations.declared.op.Op.TheVariants as op
pub use Rattle.run_laws.specs.OrchBase.Histories.{holds}
pub use Rattle.run_laws.specs.OrchBase.Names.{is_colon}
pub use Rattle.run_laws.specs.OrchCore.Settling
pub use Rattle.run_laws.specs.Permission.Checks.{of_other_cluster}
pub use Rattle.run_laws.specs.Permission.Checks
pub use Rattle.run_laws.specs.Permission.Lists.{moves_to}
pub use Rattle.run_laws.specs.Permission.Views.{label_in}
pub use Rattle.run_laws.specs.PromotionRules.Groups.{group_of}
pub use Rattle.run_laws.specs.PromotionRules.declared.groups.Group.{Group}
pub use Rattle.run_laws.specs.PromotionRules.declared.groups.Group.TheVariants as group
pub use Rattle.run_laws.specs.PseudoMatch.Plans as match_plans
pub use Rattle.run_laws.specs.RecoveryCore.Takeovers.{followers_of}
pub use Rattle.run_laws.specs.RecoveryCore.declared.attempt.Attempt as RecoveryPermits
pub use Rattle.run_laws.specs.RecoveryLaws.HeldRecoveries.{HeldRecovery}
pub use Rattle.run_laws.specs.RecoveryLaws.Rings.{HeldRings}
pub use Rattle.run_laws.specs.RecoveryPlans.Beginning.{begun_recovery, but}
pub use Rattle.run_laws.specs.RecoveryPlans.Deciding.{Lot, choose, chosen_of, expels, lot_by, lot_by_group, move_of, moves_in, moving, own_end_of}
pub use Rattle.run_laws.specs.RecoveryPlans.Deciding.{releases, sort, way_below, way_by_set, why_of, without_stopped}
pub use Rattle.run_laws.specs.RecoveryPlans.Deciding as deciding
pub use Rattle.run_laws.specs.RecoveryPlans.Moves.{Bearing, Decision, Ending, FailsFor, IsHanding, IsNext, MayDecide, MayEnd, Turning}
pub use Rattle.run_laws.specs.RecoveryPlans.Moves as by
pub use Rattle.run_laws.specs.RecoveryPlans.Recoveries.{follows, loses, sight_of, working}
pub use Rattle.run_laws.specs.RecoveryPlans.Stages.{before, drain, ends, gather, level, move, with_bridge, with_way}
pub use Rattle.run_laws.specs.RecoveryPlans.Taking.{frees, goes_back, idle, last_exchanges, last_looks, lead_under, stepped, swapped, taken}
pub use Rattle.run_laws.specs.RecoveryPlans.Taking.{takes_writes, that_can, undone, way_back}
pub use Rattle.run_laws.specs.RecoveryPlans.Telling.{result_lines}
pub use Rattle.run_laws.specs.RecoveryPlans.declared.means.Means.TheVariants as means
pub use Rattle.run_laws.specs.RecoveryPlans.declared.purpose.Purpose.TheVariants as purpose
pub use Rattle.run_laws.specs.RecoveryPlans.declared.stage.Stage.TheVariants as stage
pub use Rattle.run_laws.specs.RecoveryPlans.declared.task.Task.TheVariants as task
pub use Rattle.run_laws.specs.RecoveryPlans.declared.task.Way.TheVariants as way
pub use Rattle.run_laws.specs.RecoveryPlans.declared.why.Why.{Why}
pub use Rattle.run_laws.specs.Regroup.Permits.{relocate_row, replicas_row, rest_refusal}
pub use Rattle.run_laws.specs.Regroup.Permits as path_permits
pub use Rattle.run_laws.specs.Regroup.Plans.{arrived, ascended, climbed, moved_by, next_of, relocated, travelled}
pub use Rattle.run_laws.specs.Regroup.Plans as path_plans
pub use Rattle.run_laws.specs.ReplicationLaws.Growth.{Grows}
pub use Rattle.run_laws.specs.ServerModel.Attach.{IsTarget, chain_meets, first_kept, purged_answer, spot_below}
pub use Rattle.run_laws.specs.ServerModel.Desk.{can_reach}
pub use Rattle.run_laws.specs.ServerModel.Exchanges.{applied, apply_from, apply_step, apply_txn, attached_at, fetch_from, fetch_step}
pub use Rattle.run_laws.specs.ServerModel.Exchanges
pub use Rattle.run_laws.specs.ServerModel.Gtids.{status_in}
pub use Rattle.run_laws.specs.ServerModel.Layout
pub use Rattle.run_laws.specs.ServerModel.declared.decisions.ApplyStep.TheVariants as applying
pub use Rattle.run_laws.specs.ServerModel.declared.decisions.FetchStep.TheVariants as receiving
pub use Rattle.run_laws.specs.ServerWords.declared.answers.RotateAnswer.TheVariants as rotating
pub use Rattle.run_laws.specs.ServerWords.declared.answers.WriteAnswer.TheVariants as wrote
pub use Rattle.run_laws.specs.ServerWords.declared.attach.AttachFault.TheVariants as attaching
pub use Rattle.run_laws.specs.ServerWords.declared.attach.Spot.TheVariants as spot
pub use Rattle.run_laws.specs.ServerWords.declared.changes.Ask.TheVariants as asking
pub use Rattle.run_laws.specs.ServerWords.declared.changes.Event.{Event}
pub use Rattle.run_laws.specs.ServerWords.declared.status.StatusFault.TheVariants as seeing
pub use Rattle.run_laws.specs.Turns.declared.turn.Act.TheVariants as act
pub use Rattle.run_laws.specs.Turns.declared.turn.Step.TheVariants as turns_step
pub use Rattle.run_laws.specs.Turns.declared.turn.Turn.TheVariants as turn
pub use Rattle.run_laws.specs.UnendedJobs.Jobs
pub use Rattle.run_laws.specs.UnendedJobs.Unended as UnendedJobs
pub use Rattle.run_laws.specs.UnendedJobs.declared.unended.Unended.TheVariants as unended
pub use Rattle.run_laws.specs.WorldOpenings.Opening.{Fits}
pub use Rattle.scenario_dump.specs.Tidy.{IsTidyServer}
pub use Rattle.scenario_reader.proofs.ScenarioServers.Steps.{each_from-all}
pub use Rattle.scenario_reader.specs.ScenarioServers.Openings.{init_of}
pub use Rattle.scenario_reader.specs.ScenarioValues.Faults
pub use Rattle.tidy_laws.specs.Clusters.{AreAlike, Clusters, cluster_at, cluster_in, label}
pub use Rattle.tidy_laws.specs.Flights.{AreNeatPassages, IsNeat, IsNeatPassage, IsNeatTurn}
pub use Rattle.tidy_laws.specs.Prelude.{Allowed, Attempt, HasSize, Index, Stopped, Task, Way, job_at, live_spot, same_spot}
pub use Rattle.tidy_laws.specs.Recoveries.{IsRecoveryWithin, IsStageWithin, IsTaskWithin, IsUnendedWithin, IsWayWithin, KeepsWithin}
pub use Rattle.tidy_laws.specs.Runs.{UntilsCanBePrinted}
pub use Rattle.tidy_laws.specs.Trim.{AllOrderly, HasOwnOf, IsOrderly, IsOrderlyAsk, IsTrim, ReplicatesOf}
pub use Rattle.tidy_laws.specs.Within.{AllWithin, AreDueWithin, GoesWithin, IsDueWithin, IsJobWithin, IsReadWithin, IsTriedWithin, IsTurnWithin}
pub use Rattle.tidy_laws.specs.Within.{IsWithinCluster, StoodWithin}
