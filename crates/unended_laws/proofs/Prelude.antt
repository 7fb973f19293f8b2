-- What its proofs cite of others.
pub use Rattle.recovery_covers.proofs.Begun.{begun-covers, others-cover, outside-covers}
pub use Rattle.recovery_covers.proofs.Covering.{crowned-leader, master-crowns, takeover-crowns}
pub use Rattle.recovery_covers.proofs.Decided.{IsStuck}
pub use Rattle.recovery_covers.proofs.Doing.{decided-chooses, op-does, turn-makes}
pub use Rattle.recovery_covers.proofs.Done.{turn-chain, turn-done}
pub use Rattle.recovery_covers.proofs.JobLaws.Begun.{Sound-begun}
pub use Rattle.recovery_covers.proofs.JobLaws.Leased.{turn-leased}
pub use Rattle.recovery_covers.proofs.JobLaws.Lists.{All-find}
pub use Rattle.recovery_covers.proofs.JobLaws.Others.{other-after}
pub use Rattle.recovery_covers.proofs.JobLaws.Passages.{Held-passed, Sound-passed, leases-stored_if, world-stored_if}
pub use Rattle.recovery_covers.proofs.JobLaws.Passing.{Sound-restarted}
pub use Rattle.recovery_covers.proofs.Keeping.{begun-kept, kept-run, old-begins, promoted-keeps, taken-kept}
pub use Rattle.recovery_covers.proofs.Making.{IsAttachment, Makes, made-well}
pub use Rattle.recovery_covers.proofs.Placing.{replica-placed}
pub use Rattle.recovery_covers.proofs.Prelude.{After, All-latest, AllAllowed, Apply, AreReplicas, AreSourcesOf, Covers, CoversAt, CoversSoFar}
pub use Rattle.recovery_covers.proofs.Prelude.{DecidesOverAll, Fetch, Follows, Free-keeps, HasOnePlace, IsAsNamed, IsBeginning, IsChain, IsFree}
pub use Rattle.recovery_covers.proofs.Prelude.{IsGiving, IsLeased, IsTold, IsUnder, JobStep, KeptByChosen, Leads, LeasedRecovery, Leases, MakesWell}
pub use Rattle.recovery_covers.proofs.Prelude.{MayMake, OldFollows, Outcome, Placed, Safe, SameAim, SoundRecovery, SoundRings, Stays, Stays-keeps}
pub use Rattle.recovery_covers.proofs.Prelude.{Stays-same, Txn, Without, attached_no, crowns, deed-still, follower_nos, has_source, is_detached}
pub use Rattle.recovery_covers.proofs.Prelude.{is_intermediate, is_late, is_outside, is_source, leader, level, listed, lost_nos, of_queue, of_stage}
pub use Rattle.recovery_covers.proofs.Prelude.{of_task, outside-stays, owed, result_lines, source_no, stopped_nos, taken-held, taken-leased, target}
pub use Rattle.recovery_covers.proofs.Prelude.{times, unleased-run}
pub use Rattle.recovery_covers.proofs.RecoveryLaws.Begun.{begun-held, begun-sound}
pub use Rattle.recovery_covers.proofs.RecoveryLaws.Beside.{passage-held, passage-leased, passage-sound}
pub use Rattle.recovery_covers.proofs.RecoveryLaws.Leasing.{begun-leased}
pub use Rattle.recovery_covers.proofs.RecoveryLaws.Passing.{recovery-passes, recovery-passes-well}
pub use Rattle.recovery_covers.proofs.RecoveryLaws.Ringed.{forgotten-own, fresh-own, kept-own, shown-own}
pub use Rattle.recovery_covers.proofs.RecoveryLaws.Sounding.{taken-sound}
pub use Rattle.recovery_covers.proofs.ReplicationLaws.Worlds.{at_with_other, at_with_same}
pub use Rattle.recovery_covers.proofs.Staying.{taken-aim, then-aim}
pub use Rattle.recovery_covers.proofs.Times.{self-all, self-times, times-append}
pub use Rattle.recovery_covers.proofs.Turning.{covered, decides-before, turn-covers}
pub use Rattle.recovery_covers.specs.BinlogCoords.Log.{next_after}
pub use Rattle.recovery_covers.specs.BinlogCoords.declared.Next.{Next}
pub use Rattle.recovery_covers.specs.BinlogCoords.declared.Next.TheVariants as next
pub use Rattle.recovery_covers.specs.JobLaws.Flights.{StandsIn, after_turn, replaced, without_job, without_leases}
pub use Rattle.recovery_covers.specs.JobLaws.Held.{Spans}
pub use Rattle.recovery_covers.specs.JobLaws.Leases.{HasLeases, MayChange, job_at}
pub use Rattle.recovery_covers.specs.JobLaws.Matched.{IsPlaced, Meets}
pub use Rattle.recovery_covers.specs.JobLaws.Passages.{MayTake, TakesWell, slot_of, stored_if, turned_by}
pub use Rattle.recovery_covers.specs.JobLaws.Passages as pass
pub use Rattle.recovery_covers.specs.RecoveryLaws.HeldRecoveries.{IsLead}
pub use Rattle.recovery_covers.specs.RecoveryLaws.LeasedRecoveries.{IsLeasedList, KeepsLeased}
pub use Rattle.recovery_covers.specs.RecoveryLaws.Passing.{core_by}
pub use Rattle.recovery_covers.specs.RecoveryLaws.Staying.{Spares}
pub use Rattle.recovery_covers.specs.SoFar.{IsClosed}
pub use Rattle.recovery_reasons.proofs.Asking.{asks-far, turn-asks}
pub use Rattle.recovery_reasons.proofs.Attaching.{turn-attaches}
pub use Rattle.recovery_reasons.proofs.BinlogCoords.Places.{same_coord-refl as coord-refl}
pub use Rattle.recovery_reasons.proofs.Dealing.{over-releases}
pub use Rattle.recovery_reasons.proofs.Facts.{taken-explained}
pub use Rattle.recovery_reasons.proofs.Listing.{decides-listed, due-listed}
pub use Rattle.recovery_reasons.proofs.OnWay.{Fine, decides-fine, no-tail, still-on}
pub use Rattle.recovery_reasons.proofs.Prelude.{All, All-append, All-cons, All-contains, All-filter, All-head, All-map, All-nil, All-push, All-tail}
pub use Rattle.recovery_reasons.proofs.Prelude.{All-weaker, AreLeft, Ask, Attach, AttachAuto, Attached, AttachesAsSent, AttachFault, Attempt, Bearing}
pub use Rattle.recovery_reasons.proofs.Prelude.{BeginsWhole, BookState, Bridge, Cause, Coord, Decision, Decisions, Deed, Detached, Does, Ending}
pub use Rattle.recovery_reasons.proofs.Prelude.{Exchange, ExplainsTruly, Fact, Fate, Fits, Follower, GivesUp, Group, HeldRecovery, HeldRings, IsAny}
pub use Rattle.recovery_reasons.proofs.Prelude.{IsExplained, IsFit, IsGivenUp, IsListOf, IsNext, IsOnWay, IsPassed, IsRest, Job, Keeps as KeepsMoves}
pub use Rattle.recovery_reasons.proofs.Prelude.{Line, LostReplica, Lot, Match, MatchFault, MayBear, MayDecide, MayEnd, Means, Moment, NamesLogging}
pub use Rattle.recovery_reasons.proofs.Prelude.{Observation, Op, Passes, Position, Purpose, Recovery, Request, Server, ServerNo, Sight, SourceState}
pub use Rattle.recovery_reasons.proofs.Prelude.{Speaks, SpeaksWith, Spot, Stage, Status, Stopped, Taken, Task, Turning, Unreachable, WasRead, Way}
pub use Rattle.recovery_reasons.proofs.Prelude.{Why, World, Yields, acted, after, after_answer, after_ask, after_attach, after_change, after_desk}
pub use Rattle.recovery_reasons.proofs.Prelude.{after_look, after_match, and_parts, answer_by_sets, asked, attach_answer, attach_answer_of}
pub use Rattle.recovery_reasons.proofs.Prelude.{attach_auto_answer, attached_to, attachment_by, attempted, auto_purged, barred_by, before}
pub use Rattle.recovery_reasons.proofs.Prelude.{begun_recovery, borne, but, by_deed, by_match, by_queue, can_attach, chain_meets, closed_at, closes}
pub use Rattle.recovery_reasons.proofs.Prelude.{decided, decided_by, decides-idle, decisions-keep, deed_of, desk_answer, drain, draining, ended}
pub use Rattle.recovery_reasons.proofs.Prelude.{ended_by, ends, entered, eq-eqb, eqb-true, errant_set, expels, false≢true, fate, fate_of}
pub use Rattle.recovery_reasons.proofs.Prelude.{filter_passes, first_kept, first_source, fits-step, follows_no_more, ground_of, group_of, has_own}
pub use Rattle.recovery_reasons.proofs.Prelude.{held_of, info, is_attached, is_below, is_going, is_master, is_takeover, joined, kept-along}
pub use Rattle.recovery_reasons.proofs.Prelude.{last_exchanges, last_looks, late, latest_that, lead_of, leaver, live_spot, logs_at, lot_by}
pub use Rattle.recovery_reasons.proofs.Prelude.{lot_by_group, match_found, match_logs, met, move, move_of, moved, moved-fits, moves, moves_in}
pub use Rattle.recovery_reasons.proofs.Prelude.{observed, on_going, once, own_end_of, position_of, purged_answer, purged_len, releases, restarts}
pub use Rattle.recovery_reasons.proofs.Prelude.{ring_at, run, same-head, same-no, same-tail, same_coord, same_coord-true, same_Some, same_spot, saw}
pub use Rattle.recovery_reasons.proofs.Prelude.{seen_in, seen_of, server_at, server_of, settled_turn as settled, shown_of, sources, spot_below}
pub use Rattle.recovery_reasons.proofs.Prelude.{spot_seen, standing_at, started, status, status_in, stepped, stepped-fits, stopped_at, stray, tail_of}
pub use Rattle.recovery_reasons.proofs.Prelude.{taken, taken-walks, trail, trailing, undone, uuids, way_below, way_by_set, went-of, why_of}
pub use Rattle.recovery_reasons.proofs.Prelude.{with_server, without_follower, without_stopped}
pub use Rattle.recovery_reasons.proofs.Readings.{ReadsNow, ShowsNow, fits-of, read-now, reader_of}
pub use Rattle.recovery_reasons.proofs.Reasoning.{StopsUnreached, asked-unreached}
pub use Rattle.recovery_reasons.proofs.Sights.{SeesOnly, deed-sees}
pub use Rattle.recovery_reasons.proofs.Speaking.{begun-speaks, decides-speaks, move-ends, moved-starts, taken-speaks}
pub use Rattle.recovery_reasons.proofs.Whole.{turn-begins}
pub use Rattle.recovery_reasons.specs.Asking.{AsksAsDue, AsksSoFar, DoesAt, IsLetGo, StartsAt, StopsAt}
pub use Rattle.recovery_reasons.specs.Prelude.{Interval}
pub use Rattle.recovery_reasons.specs.PromotionRules.declared.groups.Group.TheVariants as group
pub use Rattle.unended_jobs.proofs.Going.{flown-allowed}
pub use Rattle.unended_jobs.proofs.Hooked.{hooked-has}
pub use Rattle.unended_jobs.proofs.Numbers.{found-number}
pub use Rattle.unended_jobs.proofs.RecoveryHooks.Running.{all-before, all-behind, all-stopped, got}
pub use Rattle.unended_jobs.proofs.ServerModel.Lists.{take-more}
pub use Rattle.unended_jobs.specs.Commands.declared.cause.Cause.TheVariants as cause
pub use Rattle.unended_jobs.specs.Commands.declared.line.HookPhase.TheVariants as phase
pub use Rattle.unended_jobs.specs.HookTexts.declared.values.Values.{Values}
pub use Rattle.unended_jobs.specs.Hooked.{Hooked, due_at, front_hook, front_turn, quiet, rear_hook, rear_turn, told_with, with_hooks}
pub use Rattle.unended_jobs.specs.InstanceKeeper.Bridges.{bridge_in}
pub use Rattle.unended_jobs.specs.Jobs.{with_job}
pub use Rattle.unended_jobs.specs.Jobs
pub use Rattle.unended_jobs.specs.Operations.Deeds as deed
pub use Rattle.unended_jobs.specs.Operations.Jobs.{is_match_of}
pub use Rattle.unended_jobs.specs.Operations.Matching.{standing}
pub use Rattle.unended_jobs.specs.Operations.Turns as attempt
pub use Rattle.unended_jobs.specs.Operations.declared.op.Crossing.TheVariants as cross
pub use Rattle.unended_jobs.specs.Operations.declared.op.Op.TheVariants as op
pub use Rattle.unended_jobs.specs.Operations.declared.step.JobStep.TheVariants as step
pub use Rattle.unended_jobs.specs.Prelude.{Hook, HookState, HostPort, checked, done_lines, due_after, due_before, failed_lines, ran_after, ran_before}
pub use Rattle.unended_jobs.specs.Prelude.{turned}
pub use Rattle.unended_jobs.specs.RecoveryHooks.Runs.{AreInOrder, after_lines, before_lines, begun_hooks, lines_of, unsuccessful_lines}
pub use Rattle.unended_jobs.specs.RecoveryPlans.Deciding as deciding
pub use Rattle.unended_jobs.specs.RecoveryPlans.Moves as by
pub use Rattle.unended_jobs.specs.RecoveryPlans.Named.{IsOpOf, IsTaskOf, changed_by}
pub use Rattle.unended_jobs.specs.RecoveryPlans.Table as table
pub use Rattle.unended_jobs.specs.RecoveryPlans.Taking.{source_cause}
pub use Rattle.unended_jobs.specs.RecoveryPlans.Taking as taking
pub use Rattle.unended_jobs.specs.RecoveryPlans.Whys as lost
pub use Rattle.unended_jobs.specs.RecoveryPlans.declared.means.Means.TheVariants as means
pub use Rattle.unended_jobs.specs.RecoveryPlans.declared.purpose.Purpose.TheVariants as purpose
pub use Rattle.unended_jobs.specs.RecoveryPlans.declared.stage.Stage.TheVariants as stage
pub use Rattle.unended_jobs.specs.RecoveryPlans.declared.task.Task.TheVariants as task
pub use Rattle.unended_jobs.specs.RecoveryPlans.declared.task.Way.TheVariants as way
pub use Rattle.unended_jobs.specs.ServerModel.Attach as model
pub use Rattle.unended_jobs.specs.ServerModel.Desk.{after_rotate, attached_source, befallen, detached_source, healed, rotate_answer, rotated}
pub use Rattle.unended_jobs.specs.ServerModel.Exchanges.{after_apply, after_fetch, after_write, applied, apply_from, apply_step, apply_txn}
pub use Rattle.unended_jobs.specs.ServerModel.Exchanges.{attached_at, fetch_step, is_applying, own_txn, took, write_answer}
pub use Rattle.unended_jobs.specs.ServerModel.Exchanges
pub use Rattle.unended_jobs.specs.ServerModel.Gtids.{after_attach_auto, attached_auto, auto_coord}
pub use Rattle.unended_jobs.specs.ServerModel.Purging.{after_purge, purge_answer}
pub use Rattle.unended_jobs.specs.ServerModel.Run.{Befall, Purge, Rotate, Write}
pub use Rattle.unended_jobs.specs.ServerModel.declared.decisions.ApplyStep.{ApplyStep}
pub use Rattle.unended_jobs.specs.ServerModel.declared.decisions.ApplyStep.TheVariants as applying
pub use Rattle.unended_jobs.specs.ServerModel.declared.decisions.FetchStep.{FetchStep}
pub use Rattle.unended_jobs.specs.ServerModel.declared.decisions.FetchStep.TheVariants as receiving
pub use Rattle.unended_jobs.specs.ServerWords.declared.answers.PurgeAnswer.{PurgeAnswer}
pub use Rattle.unended_jobs.specs.ServerWords.declared.answers.PurgeAnswer.TheVariants as purging
pub use Rattle.unended_jobs.specs.ServerWords.declared.answers.RotateAnswer.{RotateAnswer}
pub use Rattle.unended_jobs.specs.ServerWords.declared.answers.RotateAnswer.TheVariants as rotating
pub use Rattle.unended_jobs.specs.ServerWords.declared.answers.WriteAnswer.{WriteAnswer}
pub use Rattle.unended_jobs.specs.ServerWords.declared.answers.WriteAnswer.TheVariants as wrote
pub use Rattle.unended_jobs.specs.ServerWords.declared.attach.AttachFault.TheVariants as attaching
pub use Rattle.unended_jobs.specs.ServerWords.declared.attach.Spot.TheVariants as spot
pub use Rattle.unended_jobs.specs.ServerWords.declared.changes.Ask.TheVariants as asking
pub use Rattle.unended_jobs.specs.ServerWords.declared.changes.Event.{Event}
pub use Rattle.unended_jobs.specs.ServerWords.declared.changes.Event.TheVariants as event
pub use Rattle.unended_jobs.specs.ServerWords.declared.changes.Link.TheVariants as link
pub use Rattle.unended_jobs.specs.ServerWords.declared.changes.Threads.TheVariants as threads
pub use Rattle.unended_jobs.specs.ServerWords.declared.status.StatusFault.TheVariants as seeing
pub use Rattle.unended_jobs.specs.Unended.{Flown}
pub use Rattle.unended_jobs.specs.declared.unended.Unended.TheVariants as unended
pub use Rattle.unended_laws.specs.Beside.{IsHeldBeside, IsSoundBeside}
pub use Rattle.unended_laws.specs.CoveredBeside.{IsAimedBeside, IsCoveredBeside, IsKeptBeside, IsSpeakingBeside}
pub use Rattle.unended_laws.specs.CoveredFlights.{AimedJobs, CoveredJobs, KeptJobs, SpeakingJobs}
pub use Rattle.unended_laws.specs.CoveredPassages.{IsOutside}
pub use Rattle.unended_laws.specs.Flights.{HeldJobs, SoundJobs}
pub use Rattle.unended_laws.specs.Passages.{IsApart, IsListed, passage_of, passages_by}
pub use Rattle.unended_laws.specs.Prelude.{AllMayPass, AllPassWell, AreOwn, Docket, Flight, Held, Hooks, IsNamedRecovery, IsOfDead, IsQuiet, Keeps}
pub use Rattle.unended_laws.specs.Prelude.{MayPass, Passage, PassesWell, Restarting, Unended, as_turn, core_of, flown, gather, hooked, jobs_turned}
pub use Rattle.unended_laws.specs.Prelude.{leased_to, number_of, option_map, passed, passing, promoted_in}
pub use Rattle.unended_laws.specs.Resting.{Halts, HasSource, IsHalted, IsMatchedThere, IsResting, IsStopping, Rests, RestsFor, RestsSoFar, WasStopped}
pub use Rattle.unended_laws.specs.Resting.{coord_by, source_by}
pub use Rattle.unended_laws.specs.Tended.{IsAtCheck, IsEarly, IsOfDocket, IsTended, all_before, all_behind, plan_of}
pub use Rattle.unended_laws.specs.There.{Applies, IsApplying, IsThere}
pub use Rattle.unended_laws.specs.Turns.{IsDoneIn, IsNamedOutcome, RecoveryTurn, outcome_then, recovery_then, taken_in, world_then}
pub use Rattle.unended_laws.specs.Upkeep.{AltersOnly, ClosesFirst, GoesOn, IsGentle, IsInWork, IsKeptUp, IsLoose, IsNeverInterfered, IsOpenYet}
pub use Rattle.unended_laws.specs.Upkeep.{IsShut, IsToStand, IsUpBeside, KeepsUp, OldWasRead, OpensAlone, ReadsLast, Refuses, RunsOn, SawBelow}
pub use Rattle.unended_laws.specs.Upkeep.{SawFree, SparesItsMaster, SparesMaster, Stands, StandsAlone, UpJobs, UpSoFar, altered_by}
