-- What its proofs cite of others.
pub use Rattle.std.proofs.lemmas.Cmp.{nat_cmp_total, tied_itself}
pub use Rattle.std.proofs.lemmas.List.Elements.{Contains-append_cases}
pub use Rattle.std.specs.Ordering.{is_lt, nat_cmp, ordering_reverse, ordering_then}
pub use Rattle.std.specs.declared.cmp.Ordering.{Ordering}
pub use Rattle.std.specs.declared.cmp.Ordering.TheVariants.{Greater, Less}
pub use Rattle.plan_laws.specs.Begun.{MovesAreToldWhole, RecoveriesAreToldAsExpected, TakeoversAreToldWhole, WouldBegin}
pub use Rattle.plan_laws.specs.Conditions.{ChoicesHaveTheirConditions, condition}
pub use Rattle.plan_laws.specs.Deciding.{AreAlike, AreMet, ConditionsDecideTheChoice, IsMet}
pub use Rattle.plan_laws.specs.Doing.{IsOf, RecoveriesAreDoneAsTold, RecoveriesAreOfTheirInstances, told_means}
pub use Rattle.plan_laws.specs.Followed.{AreApart, Branch, Fork, GoesAsPlanned, IsAsPlanned, IsMissed, Path, RecoveriesFollowTheirPlans, branch_at}
pub use Rattle.plan_laws.specs.Followed.{fork_of, gathers, gone, is_after, path_by, steps_below, steps_of, steps_to}
pub use Rattle.plan_laws.specs.Followed as path
pub use Rattle.plan_laws.specs.Prelude.{Equal, LostReplica, Way, better_of, follower_of, ground_at, is_refused, recovery_lines, server_order}
pub use Rattle.plan_laws.specs.Prelude.{stopped_in, told_plan, way_below, wins}
pub use Rattle.plan_lines.proofs.Peeling.{goes-not, left, not-finish, same-left, stays, stopped-after, went-after}
pub use Rattle.plan_lines.proofs.Prelude.{Course, Done, EndOf, Event, Follower, Ground, Line, Lot, Missed, Outcome, Place, Stopped, Stops, Task, Went}
pub use Rattle.plan_lines.proofs.Prelude.{WentOn, Why, after, all_drained, are_still, as_told, begun_recovery, chosen_line, chosen_of, cons_option}
pub use Rattle.plan_lines.proofs.Prelude.{deed-went, ends, expected, expected_at, fate, filter_map-append, follower_in, handed, idle, is_below}
pub use Rattle.plan_lines.proofs.Prelude.{is_waiting, judged, loses, lot_by, lot_lines, met, parted, progressed, same_coord, set_out, spot_seen}
pub use Rattle.plan_lines.proofs.Prelude.{stopped_of, way_of, with_way, without_stopped}
pub use Rattle.plan_lines.proofs.PromotionRules.Choosing.{chosen-first, none-chosen}
pub use Rattle.plan_lines.proofs.PromotionRules.Orders.{advance_total, nearer_total}
pub use Rattle.plan_lines.specs.Branches.{away, choice_lines, chosen_lines, crowned, detach_line, gathered, handed_over, is_no, last_lines, lot_told}
pub use Rattle.plan_lines.specs.Branches.{way_lines}
pub use Rattle.plan_lines.specs.Branches
pub use Rattle.plan_lines.specs.Courses.{event_of, events_of}
pub use Rattle.plan_lines.specs.Courses as course
pub use Rattle.plan_lines.specs.Expected.{drained}
pub use Rattle.plan_lines.specs.PlanTexts.declared.line.Apart.TheVariants as apart
pub use Rattle.plan_lines.specs.PlanTexts.declared.line.Expect.TheVariants as expect
pub use Rattle.plan_lines.specs.PlanTexts.declared.line.Line.TheVariants as line
pub use Rattle.plan_lines.specs.Prelude.{is_auto, is_valid, replicas_of}
pub use Rattle.plan_lines.specs.PromotionRules.Choice.{advance_order, coord_order, is_barred, is_eligible, most_advanced, nearer_order, rank_order}
pub use Rattle.plan_lines.specs.PromotionRules.Chosen.{IsFirst}
pub use Rattle.plan_lines.specs.PromotionRules.declared.drained.Drained.{Drained}
pub use Rattle.plan_lines.specs.Straight.{attached_as}
pub use Rattle.run_laws.proofs.Making.{IsBegunBy, job-begun}
pub use Rattle.run_laws.proofs.Making as making
pub use Rattle.run_laws.proofs.Naming.{regroup-are}
pub use Rattle.run_laws.proofs.OrchCore.Comes as comes
pub use Rattle.run_laws.proofs.Permissions.{begun_joins, begun_numbered, begun_replies}
pub use Rattle.run_laws.proofs.Prelude.{All-cons, All-contains, All-contains_itself, All-head, All-map, All-nil, All-tail, All-weaker, Begins}
pub use Rattle.run_laws.proofs.Prelude.{BegunJob, BookState, Cause, Comes, CommandTurn, Contains-append_left, Contains-append_right, Coord, Docket}
pub use Rattle.run_laws.proofs.Prelude.{Does, Exchange, HostPort, Instance, Job, Means, Observation, Op, Planner, Position, Purpose}
pub use Rattle.run_laws.proofs.Prelude.{RecoveryJob as Recovery, Reply, Rise, Rise-within, Route, ServerNo, Stage, State, Unended, World, and_parts}
pub use Rattle.run_laws.proofs.Prelude.{append-nil, begun_of, command-comes, command_outcome, deed_of, eq-eqb, eqb-true, false≢true, find-append}
pub use Rattle.run_laws.proofs.Prelude.{first_source, flat_map, instance_at, is_before, is_takeover, job_at, job_by, job_with, known_of, no_docket}
pub use Rattle.run_laws.proofs.Prelude.{not-true, number_of, option_map, option_or, recovery_job, recovery_purpose, regroup_about, route_of}
pub use Rattle.run_laws.proofs.Prelude.{same-head, same-no, same-tail, same_Some, seen_of, times, updated, with_told}
pub use Rattle.run_laws.proofs.RecoveryPlans.Choices.{chosen-may}
pub use Rattle.run_laws.specs.CommandOutcomes.Outcomes
pub use Rattle.run_laws.specs.Commands.declared.cause.Cause.TheVariants as cause
pub use Rattle.run_laws.specs.Commands.declared.kinds.MatchCommand.TheVariants as matching
pub use Rattle.run_laws.specs.Commands.declared.kinds.PathCommand.TheVariants as pathcommand
pub use Rattle.run_laws.specs.Commands.declared.line.Line as RunLaws
pub use Rattle.run_laws.specs.Commands.declared.route.Planner.TheVariants as planner
pub use Rattle.run_laws.specs.Commands.declared.route.Route.TheVariants as route
pub use Rattle.run_laws.specs.InstanceKeeper.Book.{rule_at}
pub use Rattle.run_laws.specs.Operations.declared.op.Crossing.TheVariants as cross
pub use Rattle.run_laws.specs.Operations.declared.op.Op.TheVariants as op
pub use Rattle.run_laws.specs.PromotionRules.Groups.{group_of}
pub use Rattle.run_laws.specs.PromotionRules.declared.groups.Group.{Group}
pub use Rattle.run_laws.specs.PromotionRules.declared.groups.Group.TheVariants as group
pub use Rattle.run_laws.specs.RecoveryCore.Takeovers.{followers_of}
pub use Rattle.run_laws.specs.RecoveryPlans.Beginning.{is_master}
pub use Rattle.run_laws.specs.RecoveryPlans.Deciding.{Care, care_of, choose, drained_of, expels, hand, hand_by, logs_at, losses_in, lot_by_group}
pub use Rattle.run_laws.specs.RecoveryPlans.Deciding.{may_lead, move_of, moves_in, once, own_end_of, releases, stay_of, swap_by, why_of}
pub use Rattle.run_laws.specs.RecoveryPlans.Deciding as lot
pub use Rattle.run_laws.specs.RecoveryPlans.Recoveries.{without_follower}
pub use Rattle.run_laws.specs.RecoveryPlans.Stages.{drain, level, target}
pub use Rattle.run_laws.specs.RecoveryPlans.Stages as ways
pub use Rattle.run_laws.specs.RecoveryPlans.Taking.{Fate, Loss, drain_fate, is_away, loss_of, lost_on_way, lost_or_fails, marked, missed_fate}
pub use Rattle.run_laws.specs.RecoveryPlans.Taking.{move_fate, settled, swapped, why_missed}
pub use Rattle.run_laws.specs.RecoveryPlans.Taking as taking
pub use Rattle.run_laws.specs.RecoveryPlans.Telling.{told_by}
pub use Rattle.run_laws.specs.RecoveryPlans.Whys as why
pub use Rattle.run_laws.specs.RecoveryPlans.declared.means.Means.TheVariants as means
pub use Rattle.run_laws.specs.RecoveryPlans.declared.purpose.Purpose.TheVariants as purpose
pub use Rattle.run_laws.specs.RecoveryPlans.declared.stage.Stage.TheVariants as stage
pub use Rattle.run_laws.specs.RecoveryPlans.declared.task.Task.TheVariants as task
pub use Rattle.run_laws.specs.RecoveryPlans.declared.task.Way.TheVariants as way
pub use Rattle.run_laws.specs.RecoveryPlans.declared.why.Miss.{Miss}
pub use Rattle.run_laws.specs.Turns.declared.reply.Reply.TheVariants as answered
pub use Rattle.run_laws.specs.Turns.declared.turn.Act.TheVariants as act
pub use Rattle.run_laws.specs.UnendedJobs.declared.unended.Unended.TheVariants as unended
pub use Rattle.tasks.proofs.Prelude.{Answer, act_reply, begun_by, begun_state, ground_in, map-append, means_of, nat_tests, plan_answer_by, planned_by}
pub use Rattle.tasks.proofs.Prelude.{planned_reply, recovery_planned, unwrap_or}
unfoldable pub use Rattle.tasks.proofs.Prelude.{plan_answer}
