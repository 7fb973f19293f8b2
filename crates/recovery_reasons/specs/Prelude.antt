-- What this crate's definitions and contracts cite of others.
pub use Rattle.std.specs.List.{Contains, list_all}
pub use Rattle.recovery_laws.specs.BinlogCoords.Log.{is_at_or_before, is_before, same_coord}
pub use Rattle.recovery_laws.specs.Commands.declared.cause.Cause.{Cause}
pub use Rattle.recovery_laws.specs.Commands.declared.cause.Cause.TheVariants as cause
pub use Rattle.recovery_laws.specs.Commands.declared.line.Line.{Line}
pub use Rattle.recovery_laws.specs.Commands.declared.line.Lost.TheVariants as lost
pub use Rattle.recovery_laws.specs.GtidSets.declared.interval.Interval.{Interval}
pub use Rattle.recovery_laws.specs.HeldRecoveries.{HeldRecovery}
pub use Rattle.recovery_laws.specs.InstanceKeeper.Book.{rule_at}
pub use Rattle.recovery_laws.specs.InstanceKeeper.Bridges.{has_exec, has_own, latest_that}
pub use Rattle.recovery_laws.specs.KeptRows.Seeing.{seen_in}
pub use Rattle.recovery_laws.specs.KeptRows.declared.observation.Observation.{Observation}
pub use Rattle.recovery_laws.specs.LeasedRecoveries.{IsAny}
pub use Rattle.recovery_laws.specs.Operations.Changes.{server_of}
pub use Rattle.recovery_laws.specs.Operations.Deeds.{Deed, Match, deed_of}
pub use Rattle.recovery_laws.specs.Operations.Deeds as deed
pub use Rattle.recovery_laws.specs.Operations.Jobs.{match_found, position_of}
pub use Rattle.recovery_laws.specs.Operations.Matching.{match_logs}
pub use Rattle.recovery_laws.specs.Operations.Targets.{can_attach}
pub use Rattle.recovery_laws.specs.Operations.Turns.{Stops, attach_answer_of, by_deed, cause_by, cause_of_match}
pub use Rattle.recovery_laws.specs.Operations.declared.matching.Match as Operations
pub use Rattle.recovery_laws.specs.Operations.declared.matching.MatchFault.{MatchFault}
pub use Rattle.recovery_laws.specs.Operations.declared.op.Aim.TheVariants.{EndOf, ExecOf}
pub use Rattle.recovery_laws.specs.Operations.declared.op.Crossing.TheVariants as cross
pub use Rattle.recovery_laws.specs.Operations.declared.op.Op.{Op}
pub use Rattle.recovery_laws.specs.Operations.declared.op.Op.TheVariants as op
pub use Rattle.recovery_laws.specs.Operations.declared.sight.Position.{Position}
pub use Rattle.recovery_laws.specs.Operations.declared.step.JobStep.TheVariants as step
pub use Rattle.recovery_laws.specs.OrchBase.declared.rule.Rule.TheVariants as rule
pub use Rattle.recovery_laws.specs.OrchBase.declared.server.SourceState.TheVariants.{Attached, Detached}
pub use Rattle.recovery_laws.specs.Prelude.{BookState, Bridge, Coord, Exchange, IsOf, Job, Means, Moment, Purpose, Recovery, Server, ServerNo, Sight}
pub use Rattle.recovery_laws.specs.Prelude.{Stage, Status, Stopped, Taken, Task, Way, World, begun_recovery, decided, ground_of, info, is_going}
pub use Rattle.recovery_laws.specs.Prelude.{ring_at, run, seen_of, server_at, taken}
pub use Rattle.recovery_laws.specs.PromotionRules.Choice.{is_barred, is_better, is_eligible, nearer_order, precedence, server_order}
pub use Rattle.recovery_laws.specs.PromotionRules.Chosen.{HasExecutedMost, IsChoice}
pub use Rattle.recovery_laws.specs.RecoveryEnds.Ends.{closes}
pub use Rattle.recovery_laws.specs.RecoveryPlans.Beginning.{is_takeover}
pub use Rattle.recovery_laws.specs.RecoveryPlans.Deciding.{Ground, better_of, center_in, chosen_of, drained_of, follower_of, logs_at, may_lead}
pub use Rattle.recovery_laws.specs.RecoveryPlans.Deciding.{why_of}
pub use Rattle.recovery_laws.specs.RecoveryPlans.Moves.{Decision, Decisions, IsNext, IsOver, MayDecide, decided_by, stopped_at}
pub use Rattle.recovery_laws.specs.RecoveryPlans.Moves as move
pub use Rattle.recovery_laws.specs.RecoveryPlans.Named.{spoken_to}
pub use Rattle.recovery_laws.specs.RecoveryPlans.Recoveries.{sight_of}
pub use Rattle.recovery_laws.specs.RecoveryPlans.Stages.{before, is_look, reads_last, tail_of, target}
pub use Rattle.recovery_laws.specs.RecoveryPlans.Table as table
pub use Rattle.recovery_laws.specs.RecoveryPlans.Taking.{Missed, fate, is_below, loss_of, place_on, spot_by, spot_seen}
pub use Rattle.recovery_laws.specs.RecoveryPlans.Taking as taking
pub use Rattle.recovery_laws.specs.RecoveryPlans.Whys as whys
pub use Rattle.recovery_laws.specs.RecoveryPlans.declared.means.Means.TheVariants as means
pub use Rattle.recovery_laws.specs.RecoveryPlans.declared.outcome.Follower.{Follower}
pub use Rattle.recovery_laws.specs.RecoveryPlans.declared.outcome.LostReplica.{LostReplica}
pub use Rattle.recovery_laws.specs.RecoveryPlans.declared.purpose.Purpose.TheVariants as purpose
pub use Rattle.recovery_laws.specs.RecoveryPlans.declared.stage.Stage.TheVariants as stage
pub use Rattle.recovery_laws.specs.RecoveryPlans.declared.task.Task.TheVariants as task
pub use Rattle.recovery_laws.specs.RecoveryPlans.declared.task.Way.TheVariants as way
pub use Rattle.recovery_laws.specs.RecoveryPlans.declared.why.Miss.{Miss}
pub use Rattle.recovery_laws.specs.RecoveryPlans.declared.why.Miss.TheVariants as miss
pub use Rattle.recovery_laws.specs.RecoveryPlans.declared.why.Why.{Why}
pub use Rattle.recovery_laws.specs.RecoveryPlans.declared.why.Why.TheVariants as why
pub use Rattle.recovery_laws.specs.Rings.{HeldRings}
pub use Rattle.recovery_laws.specs.ServerModel.Attach.{attach_answer, live_spot, same_spot}
pub use Rattle.recovery_laws.specs.ServerModel.Desk.{can_reach, desk_answer}
pub use Rattle.recovery_laws.specs.ServerModel.Gtids.{attach_auto_answer, status}
pub use Rattle.recovery_laws.specs.ServerModel.Run.{Attach, AttachAuto, Request}
pub use Rattle.recovery_laws.specs.ServerModel.Run as model
pub use Rattle.recovery_laws.specs.ServerWords.declared.attach.AttachFault.{AttachFault}
pub use Rattle.recovery_laws.specs.ServerWords.declared.attach.AttachFault.TheVariants as attaching
pub use Rattle.recovery_laws.specs.ServerWords.declared.attach.Spot.{Spot}
pub use Rattle.recovery_laws.specs.ServerWords.declared.attach.Spot.TheVariants as spot
pub use Rattle.recovery_laws.specs.ServerWords.declared.changes.Ask.{Ask}
pub use Rattle.recovery_laws.specs.ServerWords.declared.changes.Ask.TheVariants as asking
pub use Rattle.recovery_laws.specs.ServerWords.declared.changes.Threads.{Threads}
