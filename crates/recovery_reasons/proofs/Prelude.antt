-- What its proofs cite of others.
pub use Rattle.std.proofs.lemmas.Bool.{le-ltb, lt-ltb, ltb-false, ltb-true}
pub use Rattle.std.proofs.lemmas.List.{append-nil}
pub use Rattle.std.proofs.lemmas.List.Elements.{All-contains, All-contains_itself, All-filter, All-map, Contains-append_cases, Contains-append_left}
pub use Rattle.std.proofs.lemmas.List.Elements.{Contains-append_right, Contains-push, filter_passes}
pub use Rattle.std.proofs.lemmas.Map.Made.{Contains-tail}
pub use Rattle.std.specs.Cmp.Lexicographic.{other_text, same_text}
pub use Rattle.recovery_laws.proofs.Choosing.{own-is}
pub use Rattle.recovery_laws.proofs.Deciding.{decides-held}
pub use Rattle.recovery_laws.proofs.JobLaws.Bridging.{auto-can, crossing-can, crossing-found}
pub use Rattle.recovery_laws.proofs.JobLaws.Matching.{match-can, match-there}
pub use Rattle.recovery_laws.proofs.JobLaws.Stopped.{attachment-is}
pub use Rattle.recovery_laws.proofs.OperationsProofs.Attempts.{IsAttachment, IsWaitFor, StopsFor, is_over}
pub use Rattle.recovery_laws.proofs.OperationsProofs.Attempts as doing
pub use Rattle.recovery_laws.proofs.Prelude.{All, All-append, All-chosen, All-cons, All-head, All-nil, All-push, All-tail, All-weaker, Ask, Attach}
pub use Rattle.recovery_laws.proofs.Prelude.{AttachAuto, Attached, AttachFault, Attempt, Attempts, Bearing, BookState, Bridge, Coord, Decision, Deed}
pub use Rattle.recovery_laws.proofs.Prelude.{Detached, Does, Ending, Exchange, Fits, Follower, HeldRecovery, HeldRings, Interval, IsAny, IsHanding}
pub use Rattle.recovery_laws.proofs.Prelude.{IsMove, IsNext, IsStopped, Job, Keeps, Lot, Match, MayBear, MayDecide, MayEnd, Means, Moment}
pub use Rattle.recovery_laws.proofs.Prelude.{NamesLogging, Observation, Op, Position, Purpose, Recovery, Request, Server, ServerNo, Sight}
pub use Rattle.recovery_laws.proofs.Prelude.{SourceState, Spot, Stage, Status, Stopped, Taken, Task, Unreachable, Way, WentOn, Why, World, acted}
pub use Rattle.recovery_laws.proofs.Prelude.{after, after_answer, after_ask, after_change, after_desk, after_look, and_parts, are_held, are_matched}
pub use Rattle.recovery_laws.proofs.Prelude.{asked, attach_answer, attach_answer_of, attach_auto_answer, attached_to, attempts, before, begun-of}
pub use Rattle.recovery_laws.proofs.Prelude.{begun_recovery, better_of, borne, bridge_at, but, by_bridge, by_deed, by_match, by_set, can_attach}
pub use Rattle.recovery_laws.proofs.Prelude.{choose, chosen-logs, chosen_of, closing, crossed, crossing_of, decided, decided-walks, decided_by}
pub use Rattle.recovery_laws.proofs.Prelude.{decisions-keep, deed_of, desk_answer, drain, ended_by, ends, entered, eq-eqb, eqb-true, expels}
pub use Rattle.recovery_laws.proofs.Prelude.{false≢true, fate_of, finds, first_stage, fits-step, follows_no_more, footing, ground_of, group_of}
pub use Rattle.recovery_laws.proofs.Prelude.{has_exec, has_own, is_attached, is_before, is_below, is_going, is_waiting, kept-along, last_exchanges}
pub use Rattle.recovery_laws.proofs.Prelude.{last_looks, latest_that, lead_under, leaver, logs_at, logs_by, loses, lot_by, lot_by_group, match_found}
pub use Rattle.recovery_laws.proofs.Prelude.{matched_in, move, move_of, moved, moved-fits, moved-leads, moves, moves_in, moving, ne_eqb, observed}
pub use Rattle.recovery_laws.proofs.Prelude.{own_end_of, position_of, releases, restarts, ring_at, run, same-head, same_coord, same_coord-true}
pub use Rattle.recovery_laws.proofs.Prelude.{same_Some, seen-at, seen_in, seen_of, server_at, shown_of, sight_of, status, status_in, stepped, stray}
pub use Rattle.recovery_laws.proofs.Prelude.{tail_of, taken, taken-of, that_can, trail, undone, uuids, way_below, way_by_set, why_of, with_bridge}
pub use Rattle.recovery_laws.proofs.Prelude.{with_seen, with_server, with_way, without_stopped, working}
pub use Rattle.recovery_laws.proofs.PromotionRules.Choosing.{chosen-first, first-furthest, none-chosen}
pub use Rattle.recovery_laws.proofs.PromotionRules.Orders.{advance_total, nearer_total}
pub use Rattle.recovery_laws.proofs.RecoveryEnds.Fitting.{IsFit, decides-fits, stepped-fits, went-of}
pub use Rattle.recovery_laws.proofs.RecoveryEnds.Shapes.{same-tail}
pub use Rattle.recovery_laws.proofs.RecoveryPlans.Choices.{same-no}
pub use Rattle.recovery_laws.proofs.RecoveryPlans.Naming.{renumbered}
pub use Rattle.recovery_laws.proofs.RecoveryPlans.Walking.{KeepsAlways, always, at-end, decides-idle, joined, kept-whole, once-walks, taken-walks}
pub use Rattle.recovery_laws.proofs.ReplicationLaws.Worlds.{at_with}
pub use Rattle.recovery_laws.proofs.StaysRead as sights
pub use Rattle.recovery_laws.specs.BinlogCoords.Log.{end_of}
pub use Rattle.recovery_laws.specs.Commands.declared.cause.Cause.TheVariants as cause
pub use Rattle.recovery_laws.specs.Commands.declared.line.Lost.TheVariants as word
pub use Rattle.recovery_laws.specs.InstanceKeeper.Bridges.{bridge_by}
pub use Rattle.recovery_laws.specs.JobLaws.Footing.{learn}
pub use Rattle.recovery_laws.specs.JobLaws.Held.{attachment_of}
pub use Rattle.recovery_laws.specs.Operations.Deeds as deed
pub use Rattle.recovery_laws.specs.Operations.Jobs.{others, with_hand, without}
pub use Rattle.recovery_laws.specs.Operations.Matching.{standing_at}
pub use Rattle.recovery_laws.specs.Operations.Turns.{after_attach, after_match, after_status, after_wait, after_wait_by, aim_of, ended, is_moved}
pub use Rattle.recovery_laws.specs.Operations.Turns.{is_reached, is_settled, next, saw, settles}
pub use Rattle.recovery_laws.specs.Operations.Turns as attempt
pub use Rattle.recovery_laws.specs.Operations.declared.op.Aim.{Aim}
pub use Rattle.recovery_laws.specs.Operations.declared.op.Crossing.TheVariants as cross
pub use Rattle.recovery_laws.specs.Operations.declared.op.Op.TheVariants as op
pub use Rattle.recovery_laws.specs.Operations.declared.step.JobStep.TheVariants as step
pub use Rattle.recovery_laws.specs.OrchBase.declared.rule.Rule.{Rule}
pub use Rattle.recovery_laws.specs.OrchBase.declared.rule.Rule.TheVariants as rule
pub use Rattle.recovery_laws.specs.OrchBase.declared.server.SourceState.TheVariants as source
pub use Rattle.recovery_laws.specs.PromotionRules.Choice.{advance_order, coord_order, most_advanced}
pub use Rattle.recovery_laws.specs.PromotionRules.Chosen.{IsFirst}
pub use Rattle.recovery_laws.specs.PromotionRules.declared.drained.Drained.{Drained}
pub use Rattle.recovery_laws.specs.PromotionRules.declared.groups.Group.{Group}
pub use Rattle.recovery_laws.specs.PromotionRules.declared.groups.Group.TheVariants as group
pub use Rattle.recovery_laws.specs.RecoveryPlans.Beginning.{first_source, first_tasks, is_master}
pub use Rattle.recovery_laws.specs.RecoveryPlans.Deciding.{at_last, by_queue, by_task, crown, hand, hand_by, hand_over, is_near, look_at, losses_in}
pub use Rattle.recovery_laws.specs.RecoveryPlans.Deciding.{lot_of, once, rejoin, stay_of, stopped_in, swap, swap_by, swap_or_crown, unfit, yield}
pub use Rattle.recovery_laws.specs.RecoveryPlans.Deciding as deciding
pub use Rattle.recovery_laws.specs.RecoveryPlans.Moves.{Turning, WasRead, follows_lead, late, rests}
pub use Rattle.recovery_laws.specs.RecoveryPlans.Moves as by
pub use Rattle.recovery_laws.specs.RecoveryPlans.Named.{IsListOf}
pub use Rattle.recovery_laws.specs.RecoveryPlans.Recoveries.{without_follower}
pub use Rattle.recovery_laws.specs.RecoveryPlans.Stages.{gather, is_finish, level, target}
pub use Rattle.recovery_laws.specs.RecoveryPlans.Table.{Back, alone, more_on}
pub use Rattle.recovery_laws.specs.RecoveryPlans.Table as table
pub use Rattle.recovery_laws.specs.RecoveryPlans.Taking.{Fate, Loss, at_end, attempted, back_by, barred_by, exec_by, fate_of_drain, fate_of_errant}
pub use Rattle.recovery_laws.specs.RecoveryPlans.Taking.{fate_of_move, fate_of_trail, lost_on_way, lost_or_fails, marked, match_fate, met}
pub use Rattle.recovery_laws.specs.RecoveryPlans.Taking.{missed_fate, move_fate, on_going, progressed, settled as settled_turn, way_fate, why_missed}
pub use Rattle.recovery_laws.specs.RecoveryPlans.Taking as taking
pub use Rattle.recovery_laws.specs.RecoveryPlans.Telling.{result_lines}
pub use Rattle.recovery_laws.specs.RecoveryPlans.Whys as lost
pub use Rattle.recovery_laws.specs.RecoveryPlans.declared.means.Means.TheVariants as means
pub use Rattle.recovery_laws.specs.RecoveryPlans.declared.purpose.Purpose.TheVariants as purpose
pub use Rattle.recovery_laws.specs.RecoveryPlans.declared.stage.Stage.TheVariants as stage
pub use Rattle.recovery_laws.specs.RecoveryPlans.declared.task.Task.TheVariants as task
pub use Rattle.recovery_laws.specs.RecoveryPlans.declared.task.Way.TheVariants as way
pub use Rattle.recovery_laws.specs.RecoveryPlans.declared.why.Miss.TheVariants as miss
pub use Rattle.recovery_laws.specs.RecoveryPlans.declared.why.Why.TheVariants as why
pub use Rattle.recovery_laws.specs.ServerModel.Attach.{after_attach as world_attached, chain_meets, first_kept, purged_answer, spot_below}
pub use Rattle.recovery_laws.specs.ServerModel.Desk.{started}
pub use Rattle.recovery_laws.specs.ServerModel.Gtids.{answer_by_sets, auto_purged, errant_answer, errant_set, held_of, purged_len}
pub use Rattle.recovery_laws.specs.ServerModel.Worlds.{sources}
pub use Rattle.recovery_laws.specs.ServerWords.declared.attach.AttachFault.TheVariants as attaching
pub use Rattle.recovery_laws.specs.ServerWords.declared.attach.Spot.TheVariants as spot
pub use Rattle.recovery_laws.specs.ServerWords.declared.changes.Ask.TheVariants as asking
pub use Rattle.recovery_laws.specs.ServerWords.declared.status.StatusFault.TheVariants as seeing
pub use Rattle.recovery_reasons.specs.Asking.{AsksAsDue, AsksSoFar, DoesAt, IsAskedSo, IsLetGo, Speaks}
pub use Rattle.recovery_reasons.specs.Attaching.{AttachesAsSent, Becomes, IsLostNow, IsMadeSo, IsTriedNow, attachment_by}
pub use Rattle.recovery_reasons.specs.Attaching as makes
pub use Rattle.recovery_reasons.specs.Causes.{IsMatchCause, IsTrueOf, IsUnreached}
pub use Rattle.recovery_reasons.specs.Changing.{ChangesIts, IsIts}
pub use Rattle.recovery_reasons.specs.Choices.{ComesFirst, IsBestOne, IsBetterOne, IsFirstOf, IsNear, IsPreferred, MayBePromoted}
pub use Rattle.recovery_reasons.specs.Fatal.{CanEnd, IsMissed, IsUnmatched}
pub use Rattle.recovery_reasons.specs.Nobody.{DecisionsElse, HasNobody, finds_nobody}
pub use Rattle.recovery_reasons.specs.Nobody as nobody
pub use Rattle.recovery_reasons.specs.OnWay.{AllFit, IsGathering, IsMeeting, IsOnCourse, IsOnWay, IsRead, IsSwapping, KnowsLead, StageOf, SwapOf}
pub use Rattle.recovery_reasons.specs.OnWay.{TasksOf, Yields, chooses, hands, is_beside, is_unfit, pauses, pauses_in, pauses_last, suits}
pub use Rattle.recovery_reasons.specs.Prelude.{Cause, Contains, Decisions, EndOf, ExecOf, HasExecutedMost, IsOf, Line, LostReplica, MatchFault, Miss}
pub use Rattle.recovery_reasons.specs.Prelude.{Threads, can_reach, cause_by, center_in, closes, drained_of, fate, follower_of, info, is_at_or_before}
pub use Rattle.recovery_reasons.specs.Prelude.{is_barred, is_better, is_eligible, is_look, is_takeover, live_spot, loss_of, match_logs, may_lead}
pub use Rattle.recovery_reasons.specs.Prelude.{nearer_order, place_on, precedence, reads_last, rule_at, same_spot, server_of, server_order, spoken_to}
pub use Rattle.recovery_reasons.specs.Prelude.{spot_by, spot_seen, stopped_at}
pub use Rattle.recovery_reasons.specs.Reasons.{AimsAt, AllDrained, AllLost, AreDealtWith, AreSent, AreSorted, BelowSuccessor, Betters, Chooses}
pub use Rattle.recovery_reasons.specs.Reasons.{Drains, Expels, ExplainsTruly, Fact, GivesUp, GoesBy, HasNoBetter, HasNotFailed, IsAsked, IsBefallen}
pub use Rattle.recovery_reasons.specs.Reasons.{IsBetter, IsCaredFor, IsChosen, IsDetachedSo, IsDrained, IsDue, IsExpelled, IsExplained, IsGivenUp}
pub use Rattle.recovery_reasons.specs.Reasons.{IsLed, IsLost, IsMarkedSo, IsOutSo, IsPassed, IsPromoted, IsRefusedOn, IsReleased, IsReleasedSo, IsSeenSo, IsSent}
pub use Rattle.recovery_reasons.specs.Reasons.{IsSentSo, IsShown, IsStarted, IsSwapped, IsSwitched, IsToDetach, IsToRelease, IsToStart, IsTrailing}
pub use Rattle.recovery_reasons.specs.Reasons.{IsUp, Leads, Loses, Passes, Reads, Reason, Releases, Remains, SendsBelow, SendsBeside, SendsThere}
pub use Rattle.recovery_reasons.specs.Reasons.{ShowsWay, SpeaksWith, Starts, Switches, WaitsFor, WasCrowned, WasLooked, is_settling, lead_of}
pub use Rattle.recovery_reasons.specs.Reasons.{leads_on, mark_of, speaks_of}
pub use Rattle.recovery_reasons.specs.Steps.{AreFirst, AreLeft, IsRest, are_calm, draining, gathering, leveling, trailing, waits}
pub use Rattle.recovery_reasons.specs.Undoing.{GoesBack, IsOpen, KeepsHands, MakesGood, OpensAgain, StartsHands, closed_at}
pub use Rattle.recovery_reasons.specs.Undoing as good
pub use Rattle.recovery_reasons.specs.Waiting.{BeginsWhole, HasCome, HasSettled, IsDueWait, IsFreedNow, IsGivenUpNow, IsLeftNow, IsNextStage}
pub use Rattle.recovery_reasons.specs.Waiting.{IsOneMoreWait, IsWaitOver, LosesItsWait, ReadsOthers, WaitsItsTurns, WaitsUntil, end_seen, exec_seen}
pub use Rattle.recovery_reasons.specs.Waiting as waiting
pub use Rattle.recovery_reasons.specs.Ways.{IsWayBelow, IsWayBeside}
pub use Rattle.recovery_reasons.specs.Ways as ways
