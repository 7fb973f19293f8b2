-- What its proofs cite of others.
pub use Rattle.std.proofs.lemmas.Bool.{not-true}
pub use Rattle.std.proofs.lemmas.List.Elements.{All-cons, All-filter, All-head, All-nil, All-tail, filter_map-append}
pub use Rattle.std.proofs.lemmas.Option.{same_Some}
pub use Rattle.std.specs.List.{cons_option, flat_map}
pub use Rattle.permission.proofs.Within.{replicas-within}
pub use Rattle.plan_lines.specs.Branches.{chosen_line, follower_in, handed, left, lot_for, lot_lines, parted, way_of}
pub use Rattle.plan_lines.specs.Courses.{Anywhere, Course, Done, Event, Follows, LosesNobody, Missed, Place, TakeoversFollowTheirPlans, after}
pub use Rattle.plan_lines.specs.Courses.{set_out}
pub use Rattle.plan_lines.specs.Courses as course
pub use Rattle.plan_lines.specs.Expected.{all_drained, expected, expected_at, stopped_of}
pub use Rattle.plan_lines.specs.Pieces.{all_as_told, as_told, judged}
pub use Rattle.plan_lines.specs.Prelude.{BookState, Follower, Ground, Instance, Lot, ServerNo, Stopped, but, chosen_of, ground_by, instance_at}
pub use Rattle.plan_lines.specs.Prelude.{lot_by, without_stopped}
pub use Rattle.plan_lines.specs.Prelude.lot
pub use Rattle.plan_lines.specs.Straight.{straight_line, straight_lines}
pub use Rattle.plan_lines.specs.Takeovers.{lines_below, shut, takeover_lines, yielded}
pub use Rattle.plan_texts.specs.declared.line.Expect.TheVariants as expect
pub use Rattle.plan_texts.specs.declared.line.Line.{Line}
pub use Rattle.plan_texts.specs.declared.line.Line.TheVariants as line
pub use Rattle.recovery_ends.proofs.Prelude.{Does, Means, Recovery, Stage, Task, Why, and_parts, are_still, attempted, begun_recovery, ends, entered}
pub use Rattle.recovery_ends.proofs.Prelude.{false≢true, fate, follows, gather, idle, is_waiting, loses, met, moved, on_going, result_lines, trail, working}
pub use Rattle.recovery_ends.proofs.Shapes.{Went, WentOn, deed-went, same-head, same-tail}
pub use Rattle.recovery_plans.proofs.Choices.{All-chosen}
pub use Rattle.recovery_plans.specs.Beginning
pub use Rattle.recovery_plans.specs.Commands.declared.line.Line as RecoveryPlans
pub use Rattle.recovery_plans.specs.Deciding.{moving}
pub use Rattle.recovery_plans.specs.InstanceKeeper.Bridges.{bridge_by}
pub use Rattle.recovery_plans.specs.Moves.{Stops}
pub use Rattle.recovery_plans.specs.Operations.Turns as attempt
pub use Rattle.recovery_plans.specs.Operations.declared.op.Crossing.TheVariants as cross
pub use Rattle.recovery_plans.specs.Operations.declared.op.Op.TheVariants as op
pub use Rattle.recovery_plans.specs.OrchBase.declared.server.ServerNo as RecoveryPlansServerNo
pub use Rattle.recovery_plans.specs.OrchBase.declared.server.SourceState.TheVariants as source
pub use Rattle.recovery_plans.specs.Prelude.{Bridge, Cause, Coord, EndOf, Exchange, ExecOf, Job, Observation, Op, Position, SourceState, bridge_at}
pub use Rattle.recovery_plans.specs.Prelude.{by_deed, deed_of, job_with, same_coord, seen_of}
pub use Rattle.recovery_plans.specs.Recoveries.{Outcome}
pub use Rattle.recovery_plans.specs.Stages.{reads_last, with_bridge, with_way}
pub use Rattle.recovery_plans.specs.Taking.{acted, at_end, frees, halted, is_below, lead_under, looked, progressed, spot_seen}
pub use Rattle.recovery_plans.specs.Whys as lost
pub use Rattle.recovery_plans.specs.declared.purpose.Purpose.TheVariants as purpose
pub use Rattle.recovery_plans.specs.declared.stage.Stage.TheVariants as stage
pub use Rattle.recovery_plans.specs.declared.task.Task.TheVariants as task
pub use Rattle.recovery_plans.specs.declared.task.Way.TheVariants as way
