-- What its proofs cite of others.
pub use Rattle.std.proofs.lemmas.Bool.{and_parts, eqb-true, false≢true}
pub use Rattle.std.proofs.lemmas.List.Elements.{All-append, All-cons, All-contains, All-filter, All-head, All-map, All-nil, All-push, All-tail}
pub use Rattle.std.proofs.lemmas.List.Elements.{All-weaker, Contains-append_left, Contains-append_right}
pub use Rattle.std.proofs.lemmas.Option.{same_Some}
pub use Rattle.std.specs.List.{All, Contains}
pub use Rattle.operations.proofs.Allowing.{restarts-allowed, turn-allowed}
pub use Rattle.operations.proofs.Changing.{ChangesOf, StaysOf, turn-stays}
pub use Rattle.operations.proofs.Left.{turn-left}
pub use Rattle.operations.proofs.Targets.{can-allowed}
pub use Rattle.operations.specs.BinlogCoords.declared.Entry.{Entry}
pub use Rattle.operations.specs.Commands.declared.cause.Cause.TheVariants as cause
pub use Rattle.operations.specs.Commands.declared.line.Line.TheVariants as line
pub use Rattle.operations.specs.Commands.declared.line.Lost.TheVariants as lost
pub use Rattle.operations.specs.InstanceKeeper.Bridges.{bridge_by}
pub use Rattle.operations.specs.OrchBase.declared.rule.Rule.{Rule}
pub use Rattle.operations.specs.OrchBase.declared.rule.Rule.TheVariants as rule
pub use Rattle.operations.specs.OrchBase.declared.server.Settings.{Settings}
pub use Rattle.operations.specs.OrchBase.declared.server.Txn.{Txn}
pub use Rattle.operations.specs.ServerModel.Run.{Apply, Attach, Befall, Fetch, Rotate, Write, after, run}
pub use Rattle.operations.specs.ServerModel.Worlds.{sources}
pub use Rattle.operations.specs.ServerWords.declared.attach.Spot.TheVariants as spot
pub use Rattle.operations.specs.ServerWords.declared.changes.Ask.TheVariants as asking
pub use Rattle.operations.specs.ServerWords.declared.changes.Event.TheVariants as event
pub use Rattle.operations.specs.Turns.{Turned, crossed, turned}
pub use Rattle.operations.specs.Turns as attempt
pub use Rattle.operations.specs.declared.op.Crossing.TheVariants as cross
pub use Rattle.operations.specs.declared.op.Op.TheVariants as op
pub use Rattle.operations.specs.declared.step.JobStep.TheVariants as step
pub use Rattle.promotion_rules.proofs.Choosing.{chosen-first}
pub use Rattle.promotion_rules.proofs.Firsts.{found_passes}
pub use Rattle.promotion_rules.specs.Choice.{advance_order, is_better, is_eligible, nearer_order}
pub use Rattle.recovery_plans.specs.Beginning.{begun_recovery, but, first_ops, first_source, first_stage, first_tasks}
pub use Rattle.recovery_plans.specs.Deciding.{Lot, at_last, better_of, by_queue, by_task, choose, chosen_of, crown, decided, drained_of, expels}
pub use Rattle.recovery_plans.specs.Deciding.{follower_of, ground_of, hand, hand_by, hand_over, is_reached, logs_at, look_at, lot_by, move_of}
pub use Rattle.recovery_plans.specs.Deciding.{moves_in, moving, once, rejoin, releases, sort, stopped_in, swap, swap_by, swap_or_crown, way_below}
pub use Rattle.recovery_plans.specs.Deciding.{why_of, without_stopped, yield}
pub use Rattle.recovery_plans.specs.Deciding as deciding
pub use Rattle.recovery_plans.specs.Moves.{AtEnd, Bearing, Decision, Decisions, Does, Ending, FailsFor, IsHanding, IsNext, IsOver, MayBear, MayDecide}
pub use Rattle.recovery_plans.specs.Moves.{MayEnd, Stops, Turning, borne, decided_by, ended_by, fate_of, late, rests, stopped_at, stray}
pub use Rattle.recovery_plans.specs.Moves as by
pub use Rattle.recovery_plans.specs.Named.{AreSourcesOf, IsListOf, IsOf, IsOpOf, IsTaskOf, KeepsOf, changed_by}
pub use Rattle.recovery_plans.specs.Prelude.{AllAllowed, Attached, Attempt, BookState, Bridge, Cause, Coord, Detached, Drained, Exchange, Job, Line}
pub use Rattle.recovery_plans.specs.Prelude.{Moment, Observation, Op, Position, Request, Server, ServerNo, Sight, SourceState, Without, World}
pub use Rattle.recovery_plans.specs.Prelude.{bridge_at, by_deed, can_attach, crossing_of, deed_of, ended, has_source, is_barred, is_going}
pub use Rattle.recovery_plans.specs.Prelude.{most_advanced, restarts, rule_at, same_coord, seen_of, server_at, server_of}
pub use Rattle.recovery_plans.specs.Recoveries.{Recovery, follows, follows_no_more, loses, without_follower, working}
pub use Rattle.recovery_plans.specs.Stages.{before, drain, ends, gather, leaver, level, move, moved, trail, with_bridge, with_way}
pub use Rattle.recovery_plans.specs.Table.{info, more_on}
pub use Rattle.recovery_plans.specs.Taking.{Fate, Loss, Taken, acted, at_end, attempted, barred_by, completed, entered, exec_by, fate, fate_of_drain}
pub use Rattle.recovery_plans.specs.Taking.{fate_of_errant, fate_of_trail, frees, goes_back, goes_on, halted, idle, is_below, is_waiting, judged}
pub use Rattle.recovery_plans.specs.Taking.{last_exchanges, last_looks, lead_under, looked, loss_of, lost_on_way, match_fate, met, missed_fate}
pub use Rattle.recovery_plans.specs.Taking.{move_fate, on_going, progressed, spot_seen, stepped, swapped, taken, takes_writes}
pub use Rattle.recovery_plans.specs.Taking.{that_can, undone, way_back, way_fate, lost_or_fails, why_missed}
pub use Rattle.recovery_plans.specs.Taking as taking
pub use Rattle.recovery_plans.specs.Telling.{result_lines, told_why}
pub use Rattle.recovery_plans.specs.Whys as whys
pub use Rattle.recovery_plans.specs.declared.means.Means.{Means}
pub use Rattle.recovery_plans.specs.declared.means.Means.TheVariants as means
pub use Rattle.recovery_plans.specs.declared.outcome.Follower.{Follower}
pub use Rattle.recovery_plans.specs.declared.outcome.LostReplica.{LostReplica}
pub use Rattle.recovery_plans.specs.declared.outcome.Stopped.{Stopped}
pub use Rattle.recovery_plans.specs.declared.purpose.Purpose.{Purpose}
pub use Rattle.recovery_plans.specs.declared.purpose.Purpose.TheVariants as purpose
pub use Rattle.recovery_plans.specs.declared.stage.Stage.{Stage}
pub use Rattle.recovery_plans.specs.declared.stage.Stage.TheVariants as stage
pub use Rattle.recovery_plans.specs.declared.task.Task.{Task}
pub use Rattle.recovery_plans.specs.declared.task.Task.TheVariants as task
pub use Rattle.recovery_plans.specs.declared.task.Way.{Way}
pub use Rattle.recovery_plans.specs.declared.task.Way.TheVariants as way
pub use Rattle.recovery_plans.specs.declared.why.Miss.{Miss}
pub use Rattle.recovery_plans.specs.declared.why.Why.{Why}
pub use Rattle.recovery_plans.specs.declared.why.Why.TheVariants as why
