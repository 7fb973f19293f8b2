-- What its proofs cite of others.
pub use Rattle.std.proofs.Math.Seq.{take-append_seam}
pub use Rattle.std.proofs.lemmas.Bool.{eq-eqb, false≢true, lt-ltb, ne_eqb}
pub use Rattle.std.proofs.lemmas.Fn.{filter_same}
pub use Rattle.std.proofs.lemmas.List.{append_assoc, drop-drop, drop_all, length-map, map-append}
pub use Rattle.std.proofs.lemmas.List.Elements.{All-head, All-tail, filter_more}
pub use Rattle.std.proofs.lemmas.List.Folds.{find-append}
pub use Rattle.std.proofs.lemmas.Result.{IfOk-weaker, on_ok_weaker}
pub use Rattle.std.specs.List.{All, remove}
pub use Rattle.std.specs.Option.{option_or}
pub use Rattle.job_plans.specs.Acts
pub use Rattle.job_plans.specs.declared.act.Act.{Act}
pub use Rattle.job_plans.specs.declared.act.Act.TheVariants as act
pub use Rattle.recovery_plans.proofs.Allowed.{taken-allowed}
pub use Rattle.recovery_plans.proofs.Choices.{All-chosen}
pub use Rattle.recovery_plans.proofs.Naming.{decided-of, once-of, renumbered, taken-of}
pub use Rattle.recovery_plans.proofs.OperationsProofs.Sights.{seen-at}
pub use Rattle.recovery_plans.proofs.OperationsProofs.Tests.{both}
pub use Rattle.recovery_plans.specs.Commands.declared.cause.Cause.TheVariants as cause
pub use Rattle.recovery_plans.specs.Deciding.{Ground, ground_of, hand_by, way_below}
pub use Rattle.recovery_plans.specs.Named.{IsOpOf, IsTaskOf, spoken_to}
pub use Rattle.recovery_plans.specs.Operations.Deeds as deed
pub use Rattle.recovery_plans.specs.Operations.Jobs.{others}
pub use Rattle.recovery_plans.specs.Operations.Named.{IsNamed, are_named, is_named}
pub use Rattle.recovery_plans.specs.Operations.Turns.{by_ops, turned}
pub use Rattle.recovery_plans.specs.Operations.Turns as attempt
pub use Rattle.recovery_plans.specs.Operations.declared.step.JobStep.TheVariants as step
pub use Rattle.recovery_plans.specs.Prelude.{Attempt, BookState, Deed, Moment, Position, by_deed}
pub use Rattle.recovery_plans.specs.Stages.{leaver}
pub use Rattle.recovery_plans.specs.Table.{info}
pub use Rattle.recovery_plans.specs.Table as table
pub use Rattle.recovery_plans.specs.Taking.{acted, attempted, on_going, progressed}
pub use Rattle.recovery_plans.specs.Whys as lost
pub use Rattle.recovery_plans.specs.declared.outcome.LostReplica.{LostReplica}
pub use Rattle.recovery_plans.specs.declared.outcome.Stopped.{Stopped}
pub use Rattle.recovery_plans.specs.declared.stage.Stage.{Stage}
pub use Rattle.recovery_plans.specs.declared.stage.Stage.TheVariants as stage
pub use Rattle.recovery_plans.specs.declared.task.Task.TheVariants as task
pub use Rattle.recovery_plans.specs.declared.task.Way.{Way}
pub use Rattle.recovery_plans.specs.declared.why.Why.{Why}
pub use Rattle.recovery_turns.specs.Cores.{core_of}
pub use Rattle.recovery_turns.specs.Deciding.{Fits, IsBusy, IsFirst, decided_on, settled_on, sights_of, working_on}
pub use Rattle.recovery_turns.specs.Looks.{CanEnd, CanTake, IsSpare, after_step, foretold}
pub use Rattle.recovery_turns.specs.Prelude.{AllAllowed, Cause, IsNamedRecovery, Job, JobStep, Line, Look, Op, Purpose, Recovery, ServerNo, Sight}
pub use Rattle.recovery_turns.specs.Prelude.{Taken, Task, World, at_end, barred_by, but, chosen_of, decided, deed_of, ends, entered, expels, fails}
pub use Rattle.recovery_turns.specs.Prelude.{fate, first_tasks, follower_line, follows_no_more, goes_on, ground_by, hand, is_waiting, job_after}
pub use Rattle.recovery_turns.specs.Prelude.{loses, lost_line, made_told, marked, met, moved, moving, next, once, option_to_list, releases}
pub use Rattle.recovery_turns.specs.Prelude.{replica_line, rest_of, seen_after, seen_of, server_of, settled, sort, taken, why_of, with_seen}
pub use Rattle.recovery_turns.specs.Prelude.{without_follower}
pub use Rattle.recovery_turns.specs.RecoveriesBy.{IsRoomy, room_for}
pub use Rattle.recovery_turns.specs.Steps.{IsTold, progressed_by, stepped_by}
pub use Rattle.recovery_turns.specs.Turnings.{ending_at, going_unless, looked_by, stepped_to, turned_by}
pub use Rattle.recovery_turns.specs.declared.decided.Decided.{Decided}
pub use Rattle.recovery_turns.specs.declared.decided.Work.{Work}
pub use Rattle.recovery_turns.specs.declared.job_parts.JobParts.{JobParts}
pub use Rattle.recovery_turns.specs.declared.look.RecoveryLook.{RecoveryLook}
pub use Rattle.recovery_turns.specs.declared.progress.LastLines.{LastLines}
