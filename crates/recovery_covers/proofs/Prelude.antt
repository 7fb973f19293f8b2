-- What its proofs cite of others.
pub use Rattle.std.proofs.lemmas.Bool.{le-leb, ltb-false, not-true}
pub use Rattle.std.proofs.lemmas.List.{length-take, length-take-le, take-append-drop, take-append-le}
pub use Rattle.std.proofs.lemmas.List.Elements.{All-contains, All-contains_itself, All-filter, All-map, Contains-append_left, Contains-append_right}
pub use Rattle.std.proofs.lemmas.List.Elements.{Contains-push, filter_map-append, filter_passes}
pub use Rattle.std.specs.List.{Contains, filter, list_all}
pub use Rattle.std.specs.Option.{option_to_list}
pub use Rattle.recovery_covers.specs.Between.{AllMayCome, Between, MayCome, UnderWay, recovery_after, recovery_by, world_after, world_by}
pub use Rattle.recovery_covers.specs.Between as between
pub use Rattle.recovery_covers.specs.Chains.{IsChain}
pub use Rattle.recovery_covers.specs.Covers.{AreReplicas, Covers, Follows, HasOnePlace, HasSwapped, IsAsNamed, IsOnceIn, IsTold, crowns, follower_nos}
pub use Rattle.recovery_covers.specs.Covers.{leader, listed, lost_nos, owed, times}
pub use Rattle.recovery_covers.specs.Doing.{ChoosesAmongAll, DecidesOverAll, HandsOverAll, MakesWell, MayAsk, MayMake}
pub use Rattle.recovery_covers.specs.Kept.{IsBeginning, KeptByChosen, SameAim}
pub use Rattle.recovery_covers.specs.Prelude.{Decisions, Line, LostReplica, Outcome, first_source, is_master, is_takeover, server_of, told_by}
pub use Rattle.recovery_covers.specs.Prelude.{told_why}
pub use Rattle.recovery_covers.specs.SoFar.{Awaits, CoversAt, CoversSoFar, FollowsBy, IsCrowned, IsGiving, IsLast, IsPromoted, Leads, OldFollows}
pub use Rattle.recovery_covers.specs.SoFar.{Stands, chooses, decides, in_order, is_intermediate, is_late, is_nil, of_queue, of_stage, of_task}
pub use Rattle.recovery_covers.specs.SoFar.{stopped_nos, total}
pub use Rattle.recovery_covers.specs.Told.{IsToldOf, leader_line}
pub use Rattle.recovery_laws.proofs.BinlogCoords.Places.{place-monotone}
pub use Rattle.recovery_laws.proofs.Choosing.{All-latest}
pub use Rattle.recovery_laws.proofs.Deciding.{decides-held}
pub use Rattle.recovery_laws.proofs.Effects.{After, IsMoved, IsOnce, Reads-true, about-moves, back-moves, deed-still, detach-moves, open-moves}
pub use Rattle.recovery_laws.proofs.Effects.{reset-moves, shut-moves, status-reads, up-once, way-moves}
pub use Rattle.recovery_laws.proofs.JobLaws.Others.{unleased-run}
pub use Rattle.recovery_laws.proofs.Leasing.{taken-leased}
pub use Rattle.recovery_laws.proofs.OperationsProofs.Attempts as doing
pub use Rattle.recovery_laws.proofs.Prelude.{All, All-append, All-better, All-chosen, All-cons, All-head, All-nil, All-push, All-tail, All-weaker}
pub use Rattle.recovery_laws.proofs.Prelude.{AllAllowed, AreSourcesOf, Ask, Attached, Attempt, Attempts, Bearing, BookState, Bridge, Coord, Decision}
pub use Rattle.recovery_laws.proofs.Prelude.{Deed, Detached, Does, Ending, Exchange, Fits, Follower, Grows-run, HeldRecovery, HeldRings, IsAny}
pub use Rattle.recovery_laws.proofs.Prelude.{IsApart, IsFree, IsHanding, IsLeased, IsMove, IsNext, IsRuling, IsSoundStop, IsSourced, IsSourcedAsSeen}
pub use Rattle.recovery_laws.proofs.Prelude.{IsStopped, IsUnder, IsWritable, Job, Keeps, KeepsSource, LeasedRecovery, Leases, Lot, MayDecide, MayEnd}
pub use Rattle.recovery_laws.proofs.Prelude.{Means, Moment, Observation, Op, Placed, Position, Purpose, Reads, Recovery, Safe, Server, ServerNo}
pub use Rattle.recovery_laws.proofs.Prelude.{Settings, Sight, SoundRecovery, SoundRings, SourceState, Stage, Stays, Stopped, Taken, Task, Way, WentOn}
pub use Rattle.recovery_laws.proofs.Prelude.{Why, Without, World, after, and_parts, attached_no, attempts, before, begun_recovery, better_of, borne}
pub use Rattle.recovery_laws.proofs.Prelude.{bridge-parts, bridge_at, but, by_deed, choose, chosen-logs, chosen_of, closing, decided_by}
pub use Rattle.recovery_laws.proofs.Prelude.{decisions-keep, deed_of, ended_by, ends, entered, eq-eqb, eqb-true, expels, false≢true, fate_of, finds}
pub use Rattle.recovery_laws.proofs.Prelude.{finds_match, fits-step, follows, follows_no_more, footing, frees, ground_of, group_of, has_own}
pub use Rattle.recovery_laws.proofs.Prelude.{has_source, idle, is_before, is_below, is_detached, is_going, is_outside, is_source, is_waiting}
pub use Rattle.recovery_laws.proofs.Prelude.{kept-along, last_looks, latest_that, lead_under, leaver, level, logs_at, logs_by, loses, lot_by}
pub use Rattle.recovery_laws.proofs.Prelude.{lot_by_group, matched_in, move, move_of, moved, moved-fits, moves, moves_by, moves_in, moving, ne_eqb}
pub use Rattle.recovery_laws.proofs.Prelude.{observed, own_end_of, releases, result_lines, ring_at, run, same-head, same_coord, same_Some, seen-at}
pub use Rattle.recovery_laws.proofs.Prelude.{seen_of, server_at, sight_of, sort, source_no, source_shown, stepped, swapped, tail_of, taken, target}
pub use Rattle.recovery_laws.proofs.Prelude.{way_below, way_by_set, why_of, with_way, without_stopped, working}
pub use Rattle.recovery_laws.proofs.PromotionRules.Choosing.{chosen-first, first-furthest}
pub use Rattle.recovery_laws.proofs.RecoveryEnds.Fitting.{went-of}
pub use Rattle.recovery_laws.proofs.RecoveryPlans.Choices.{same-no}
pub use Rattle.recovery_laws.proofs.RecoveryPlans.Walking.{KeepsAlways, always, decides-idle, kept-whole, taken-walks}
pub use Rattle.recovery_laws.proofs.RecoveryPlans.Walking as walk
pub use Rattle.recovery_laws.proofs.RecoveryPlans.Worlds.{book, bridge, each_turn, end, rounds, server, server_no, world}
pub use Rattle.recovery_laws.proofs.ReplicationLaws.Runs.{Placed-run}
pub use Rattle.recovery_laws.proofs.Sounding.{decides-sound}
pub use Rattle.recovery_laws.proofs.Standing.{Apart-keeps, Free-keeps, Ruling-stays, Sourced-keeps, Stays-keeps, Stays-same, Under-keeps}
pub use Rattle.recovery_laws.proofs.Standing.{outside-stays}
pub use Rattle.recovery_laws.proofs.Taking.{due, fits, others-held, taken-held}
pub use Rattle.recovery_laws.specs.BinlogCoords.Log.{is_at_or_before, place}
pub use Rattle.recovery_laws.specs.Commands.declared.cause.Cause.{Cause}
pub use Rattle.recovery_laws.specs.Commands.declared.cause.Cause.TheVariants as cause
pub use Rattle.recovery_laws.specs.Commands.declared.line.Line.TheVariants as line
pub use Rattle.recovery_laws.specs.InstanceKeeper.Book.{rule_at}
pub use Rattle.recovery_laws.specs.Operations.Deeds as deed
pub use Rattle.recovery_laws.specs.Operations.Turns.{ended, next}
pub use Rattle.recovery_laws.specs.Operations.Turns as attempt
pub use Rattle.recovery_laws.specs.Operations.declared.op.Crossing.TheVariants as cross
pub use Rattle.recovery_laws.specs.Operations.declared.op.Op.TheVariants as op
pub use Rattle.recovery_laws.specs.Operations.declared.step.JobStep.{JobStep}
pub use Rattle.recovery_laws.specs.Operations.declared.step.JobStep.TheVariants as step
pub use Rattle.recovery_laws.specs.OrchBase.declared.rule.Rule.TheVariants as rule
pub use Rattle.recovery_laws.specs.OrchBase.declared.server.Txn.{Txn}
pub use Rattle.recovery_laws.specs.PromotionRules.Choice.{advance_order, is_barred, is_eligible, most_advanced}
pub use Rattle.recovery_laws.specs.PromotionRules.declared.drained.Drained.{Drained}
pub use Rattle.recovery_laws.specs.PromotionRules.declared.groups.Group.{Group}
pub use Rattle.recovery_laws.specs.PromotionRules.declared.groups.Group.TheVariants as group
pub use Rattle.recovery_laws.specs.RecoveryPlans.Deciding.{crown, drained_of, losses_in, may_lead, rejoin, stay_of, stopped_in, yield}
pub use Rattle.recovery_laws.specs.RecoveryPlans.Deciding as deciding
pub use Rattle.recovery_laws.specs.RecoveryPlans.Moves.{Turning, WasRead, follows_lead, rests, stopped_at}
pub use Rattle.recovery_laws.specs.RecoveryPlans.Moves as by
pub use Rattle.recovery_laws.specs.RecoveryPlans.Stages.{is_finish, is_look, reads_last}
pub use Rattle.recovery_laws.specs.RecoveryPlans.Table as table
pub use Rattle.recovery_laws.specs.RecoveryPlans.Taking.{Fate, Loss, exec_by, expelled, fate, fate_of_drain, fate_of_errant, fate_of_trail, gathered}
pub use Rattle.recovery_laws.specs.RecoveryPlans.Taking.{loss_of, lost_on_way, lost_or_fails, marked, match_fate, missed_fate, move_fate, spot_seen}
pub use Rattle.recovery_laws.specs.RecoveryPlans.Taking.{way_fate, why_missed}
pub use Rattle.recovery_laws.specs.RecoveryPlans.Taking as taking
pub use Rattle.recovery_laws.specs.RecoveryPlans.Telling.{follower_line, lines_apart, lost_line, or_line, replica_line}
pub use Rattle.recovery_laws.specs.RecoveryPlans.Whys as lost
pub use Rattle.recovery_laws.specs.RecoveryPlans.declared.means.Means.TheVariants as means
pub use Rattle.recovery_laws.specs.RecoveryPlans.declared.purpose.Purpose.TheVariants as purpose
pub use Rattle.recovery_laws.specs.RecoveryPlans.declared.stage.Stage.TheVariants as stage
pub use Rattle.recovery_laws.specs.RecoveryPlans.declared.task.Task.TheVariants as task
pub use Rattle.recovery_laws.specs.RecoveryPlans.declared.task.Way.TheVariants as way
pub use Rattle.recovery_laws.specs.RecoveryPlans.declared.why.Miss.{Miss}
pub use Rattle.recovery_laws.specs.RecoveryPlans.declared.why.Why.TheVariants as why
pub use Rattle.recovery_laws.specs.ReplicationLaws.Growth.{Grows}
pub use Rattle.recovery_laws.specs.ServerModel.Run.{Apply, Fetch}
pub use Rattle.recovery_laws.specs.ServerModel.Run as model
pub use Rattle.recovery_laws.specs.ServerWords.declared.changes.Ask.TheVariants as asking
