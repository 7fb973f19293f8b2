-- What its proofs cite of others.
pub use Rattle.std.proofs.lemmas.List.Elements.{All-append}
pub use Rattle.job_laws.proofs.Begun.{freed-others, kept-leases}
pub use Rattle.job_laws.proofs.Bridging.{crossing-joins, stands-at}
pub use Rattle.job_laws.proofs.Lists.{All-at, All-ring}
pub use Rattle.job_laws.proofs.Matching.{AllMeet-run}
pub use Rattle.job_laws.proofs.Modes.{gtid-run}
pub use Rattle.job_laws.proofs.Observing.{deed-observes}
pub use Rattle.job_laws.proofs.Passages.{leases-stored_if, world-stored_if}
pub use Rattle.job_laws.proofs.Passing.{observed-bridged, observed-shown}
pub use Rattle.job_laws.proofs.Prelude.{All, All-cons, All-head, All-nil, All-push, All-tail, All-weaker, AllAllowed, AllBridged, AllJoinWell}
pub use Rattle.job_laws.proofs.Prelude.{AllMeet, AllShow, ArePlaced, Ask, Attach, AttachAuto, Attached, AttachFault, Attempt, Attempts, Becomes}
pub use Rattle.job_laws.proofs.Prelude.{Bridge, Coord, Deed, Detached, Exchange, Flight, Footing, Goes, Grows-run, HasLeases, Held, HeldJob}
pub use Rattle.job_laws.proofs.Prelude.{IsBridged, IsDue, IsLeased, IsMove, IsPlaced, IsShown, IsShownBridged, IsTarget, Job, KeepsHeld, KeepsLeases}
pub use Rattle.job_laws.proofs.Prelude.{KeepsSound, Leases, Leaves, Match, Matched, MayChange, MayPass, MayTake, Meets, Moment, Observation, Op}
pub use Rattle.job_laws.proofs.Prelude.{Passage, Placed, Position, Request, Safe, Server, ServerNo, Settings, Shows, Shows-run, ShowsAt, Sight, Sound}
pub use Rattle.job_laws.proofs.Prelude.{SourceState, Spans, Spot, Stands, Stands-grows, StandsIn, Status, Stops, TakesWell, Unreachable, Without}
pub use Rattle.job_laws.proofs.Prelude.{World, after, after_answer, after_turn, and_parts, are_held, are_matched, at_with_other, attach_answer_of}
pub use Rattle.job_laws.proofs.Prelude.{attempts, both, bridge_at, bridge_in, by_deed, by_match, by_set, can_attach, change_of, crossed, crossing_of}
pub use Rattle.job_laws.proofs.Prelude.{deed_of, eq-eqb, eqb-true, false≢true, finds, finds_match, footing, going, is_going, is_under, job_at, leaves}
pub use Rattle.job_laws.proofs.Prelude.{logs_by, match_found, matched_in, ne_eqb, observed, own_txn, passed, position_of, restarts, ring_at, ringed}
pub use Rattle.job_laws.proofs.Prelude.{run, same_Some, seen-at, seen_in, seen_of, server_at, slot_of, source_no, source_shown, status, took}
pub use Rattle.job_laws.proofs.Prelude.{turn-allowed, turned, turned_by, with_seen, without_leases}
pub use Rattle.job_laws.proofs.Showing.{Bridged-run, Spans-run, logs-on}
pub use Rattle.job_laws.proofs.Spanning.{bridge-parts, seen-spans}
pub use Rattle.job_laws.proofs.Trying.{auto-tried, cross-tried, match-tried}
pub use Rattle.job_laws.proofs.Turns.{AllBridged-run, Held-run, deed-kept, due-of, goes-kept, goes-sound, restarts-join, target-logs, with-one}
pub use Rattle.job_laws.specs.Footing as JobLaws
pub use Rattle.job_laws.specs.Passages as pass
pub use Rattle.recovery_ends.proofs.Fitting.{begun-fits}
pub use Rattle.recovery_ends.proofs.Observing.{attempted-observes}
pub use Rattle.recovery_ends.proofs.Shapes.{Went, WentOn, deed-went, fits-step, front-fits, moved-fits, same-head, tail-fits, way-fits}
pub use Rattle.recovery_laws.specs.HeldRecoveries.{HeldRecovery, IsLead, IsReady, IsReadyStage, IsReadyWay, IsStopped, KeepsRecovery, NamesLogging}
pub use Rattle.recovery_laws.specs.HeldRecoveries.{stopped_bridge}
pub use Rattle.recovery_laws.specs.LeasedRecoveries.{IsAny, IsLeasedList, KeepsLeased, LeasedRecovery}
pub use Rattle.recovery_laws.specs.Passing.{as_turn, core_by}
pub use Rattle.recovery_laws.specs.Prelude.{BookState, Fits, Means, Purpose, Recovery, Stage, Stopped, Taken, Task, Way, begun_recovery, decided}
pub use Rattle.recovery_laws.specs.Prelude.{ground_of, job_with, taken}
pub use Rattle.recovery_laws.specs.Rings.{AreOwn, HeldRings, SoundRings}
pub use Rattle.recovery_laws.specs.SoundRecoveries.{IsSoundStage, IsSoundStop, IsSoundTask, IsSoundWay, KeepsSoundRecovery, SoundRecovery}
pub use Rattle.recovery_laws.specs.Standing.{IsApart, IsFree, IsRuling, IsSourced, IsSourcedAsSeen, IsUnder, IsWritable, KeepsSource, Reads, Stays}
pub use Rattle.recovery_laws.specs.Standing.{attached_no, is_outside}
pub use Rattle.recovery_laws.specs.Staying.{Spares}
pub use Rattle.recovery_plans.proofs.Allowed.{taken-allowed}
pub use Rattle.recovery_plans.proofs.Begun.{begun-of, first-all}
pub use Rattle.recovery_plans.proofs.Choices.{All-better, All-chosen, chosen-logs}
pub use Rattle.recovery_plans.proofs.Leading.{moved-leads}
pub use Rattle.recovery_plans.proofs.Naming.{taken-of}
pub use Rattle.recovery_plans.proofs.OperationsProofs.Attempts as doing
pub use Rattle.recovery_plans.proofs.Walking.{Keeps, decided-walks, decisions-keep, kept-along, made-along}
pub use Rattle.recovery_plans.specs.Beginning.{but, first_ops, first_stage}
pub use Rattle.recovery_plans.specs.Deciding.{Lot, better_of, choose, chosen_of, closing, expels, logs_at, lot_by, lot_by_group, move_of, moves_in}
pub use Rattle.recovery_plans.specs.Deciding.{moving, own_end_of, releases, sort, way_below, way_by_set, why_of, without_stopped}
pub use Rattle.recovery_plans.specs.Deciding as deciding
pub use Rattle.recovery_plans.specs.InstanceKeeper.Bridges.{has_exec, has_own, latest_that}
pub use Rattle.recovery_plans.specs.InstanceKeeper.Bridges
pub use Rattle.recovery_plans.specs.Moves.{Bearing, Decision, Does, Ending, IsHanding, IsNext, MayBear, MayDecide, MayEnd, borne, decided_by}
pub use Rattle.recovery_plans.specs.Moves.{ended_by, fate_of, stray}
pub use Rattle.recovery_plans.specs.Moves as by
pub use Rattle.recovery_plans.specs.Named.{AreSourcesOf, IsOpOf, IsTaskOf, changed_by}
pub use Rattle.recovery_plans.specs.Operations.Deeds as deed
pub use Rattle.recovery_plans.specs.Operations.Turns.{Ends, after_ask, after_look}
pub use Rattle.recovery_plans.specs.Operations.Turns as attempt
pub use Rattle.recovery_plans.specs.Operations.declared.op.Crossing.TheVariants as cross
pub use Rattle.recovery_plans.specs.Operations.declared.op.Op.TheVariants as op
pub use Rattle.recovery_plans.specs.PromotionRules.Groups.{by_bridge, group_of}
pub use Rattle.recovery_plans.specs.PromotionRules.declared.groups.Group.TheVariants as group
pub use Rattle.recovery_plans.specs.Recoveries.{follows, follows_no_more, loses, sight_of, working}
pub use Rattle.recovery_plans.specs.ServerModel.Attach as model
pub use Rattle.recovery_plans.specs.ServerModel.Desk.{detached, detached_source, is_detached}
pub use Rattle.recovery_plans.specs.ServerWords.declared.attach.Spot.TheVariants as spot
pub use Rattle.recovery_plans.specs.ServerWords.declared.changes.Ask.TheVariants as asking
pub use Rattle.recovery_plans.specs.ServerWords.declared.status.StatusFault.TheVariants as seeing
pub use Rattle.recovery_plans.specs.Stages.{before, drain, ends, gather, leaver, level, move, moved, moves, moves_by, tail_of, target, trail}
pub use Rattle.recovery_plans.specs.Stages.{with_bridge, with_way}
pub use Rattle.recovery_plans.specs.Taking.{acted, entered, frees, goes_back, idle, is_below, is_source, is_waiting, last_exchanges, last_looks}
pub use Rattle.recovery_plans.specs.Taking.{lead_under, stepped, swapped, takes_writes, that_can, undone, way_back}
pub use Rattle.recovery_plans.specs.Telling.{result_lines}
pub use Rattle.recovery_plans.specs.declared.means.Means.TheVariants as means
pub use Rattle.recovery_plans.specs.declared.outcome.Follower.{Follower}
pub use Rattle.recovery_plans.specs.declared.purpose.Purpose.TheVariants as purpose
pub use Rattle.recovery_plans.specs.declared.stage.Stage.TheVariants as stage
pub use Rattle.recovery_plans.specs.declared.task.Task.TheVariants as task
pub use Rattle.recovery_plans.specs.declared.task.Way.TheVariants as way
pub use Rattle.recovery_plans.specs.declared.why.Why.{Why}
pub use Rattle.replication_laws.proofs.Changes.{Asked, Befallen}
pub use Rattle.replication_laws.proofs.Changes as changes
pub use Rattle.replication_laws.proofs.Prelude.{Event, Interval, after_attach_auto, after_change, after_desk, asked, attach_answer}
pub use Rattle.replication_laws.proofs.Prelude.{attach_auto_answer, attached_auto, attached_to, auto_coord, desk_answer, has_source, is_attached}
pub use Rattle.replication_laws.proofs.Prelude.{is_before, same_coord, same_coord-true, shown_of, status_in, uuids, with_server}
pub use Rattle.replication_laws.proofs.Worlds.{at_with_same}
