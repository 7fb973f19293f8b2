-- What its proofs cite of others.
pub use Rattle.std.proofs.lemmas.Bool.{and_parts, false≢true, ne_eqb}
pub use Rattle.recovery_ends.specs.Ends.{IsCalm, IsShaped, closes, ops_after, ops_at_end, ops_last, ops_of_crown, ops_of_queue, ops_of_task}
pub use Rattle.recovery_ends.specs.Ends.{ops_to_come, turns_to_end}
pub use Rattle.recovery_ends.specs.Shapes.{Fits, are_still, is_due}
pub use Rattle.recovery_plans.proofs.OperationsProofs.Attempts.{Attempts, attempts}
pub use Rattle.recovery_plans.proofs.OperationsProofs.Attempts as doing
pub use Rattle.recovery_plans.proofs.OperationsProofs.Ending.{turn-moves}
pub use Rattle.recovery_plans.proofs.Walking.{Keeps, decides-idle, kept-along}
pub use Rattle.recovery_plans.specs.Beginning.{begun_recovery, first_ops, first_stage}
pub use Rattle.recovery_plans.specs.Deciding.{Lot, choose, closing, expels, ground_of, lot_by, move_of, moves_in, releases, sort, why_of}
pub use Rattle.recovery_plans.specs.Deciding.{without_stopped}
pub use Rattle.recovery_plans.specs.Deciding as deciding
pub use Rattle.recovery_plans.specs.Moves.{Bearing, Decision, Does, Ending, IsNext, IsOver, MayBear, MayDecide, MayEnd, WasRead, borne, decided_by}
pub use Rattle.recovery_plans.specs.Moves.{ended_by, fate_of, rests, stopped_at}
pub use Rattle.recovery_plans.specs.Moves as by
pub use Rattle.recovery_plans.specs.Operations.Ending.{MovesOn, turns_for, turns_left}
pub use Rattle.recovery_plans.specs.Operations.Turns.{Ends, Goes, Stops, going, settled}
pub use Rattle.recovery_plans.specs.Operations.Turns as attempt
pub use Rattle.recovery_plans.specs.Operations.declared.op.Crossing.TheVariants as cross
pub use Rattle.recovery_plans.specs.Operations.declared.op.Op.TheVariants as op
pub use Rattle.recovery_plans.specs.Prelude.{Attempt, BookState, Bridge, Cause, Deed, Exchange, Job, Moment, Observation, Op, ServerNo, World}
pub use Rattle.recovery_plans.specs.Prelude.{by_deed, deed_of, is_going}
pub use Rattle.recovery_plans.specs.Recoveries.{Recovery, follows, follows_no_more, loses, working}
pub use Rattle.recovery_plans.specs.Stages.{before, ends, gather, leaver, level, moved, tail_of, trail}
pub use Rattle.recovery_plans.specs.Table.{more_on}
pub use Rattle.recovery_plans.specs.Taking.{Fate, attempted, barred_by, entered, fate, idle, is_waiting, last_looks, met, on_going, stepped, taken}
pub use Rattle.recovery_plans.specs.Taking as taking
pub use Rattle.recovery_plans.specs.Telling.{result_lines}
pub use Rattle.recovery_plans.specs.declared.means.Means.{Means}
pub use Rattle.recovery_plans.specs.declared.outcome.Stopped.{Stopped}
pub use Rattle.recovery_plans.specs.declared.purpose.Purpose.{Purpose}
pub use Rattle.recovery_plans.specs.declared.purpose.Purpose.TheVariants as purpose
pub use Rattle.recovery_plans.specs.declared.stage.Stage.{Stage}
pub use Rattle.recovery_plans.specs.declared.stage.Stage.TheVariants as stage
pub use Rattle.recovery_plans.specs.declared.task.Task.{Task}
pub use Rattle.recovery_plans.specs.declared.task.Task.TheVariants as task
pub use Rattle.recovery_plans.specs.declared.task.Way.{Way}
pub use Rattle.recovery_plans.specs.declared.task.Way.TheVariants as way
pub use Rattle.recovery_plans.specs.declared.why.Why.{Why}
