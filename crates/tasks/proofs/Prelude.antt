-- What its proofs cite of others.
pub use Rattle.std.proofs.Math.ListN.{get_or-append}
pub use Rattle.std.proofs.Math.Seq.{take-length}
pub use Rattle.std.proofs.lemmas.List.{length-take-le, map_more, take-append-drop, take-append-le, take-map}
pub use Rattle.std.proofs.lemmas.List.Folds.{list_any-append}
pub use Rattle.std.proofs.lemmas.List.Sums.{count_by-le-length, sum_by_push}
pub use Rattle.std.proofs.lemmas.Option.{slice_get_read}
pub use Rattle.std.specs.Option.{option_map_or, option_or}
pub use Rattle.command_line.proofs.Named.{taken_have}
unfoldable pub use Rattle.command_line.specs.Commands.{needs_at}
pub use Rattle.command_line.specs.Places.{drawing_by}
pub use Rattle.command_line.specs.Taken.{AreTaken, are_there}
pub use Rattle.command_line.specs.declared.command.Own.TheVariants as own
pub use Rattle.orch_core.proofs.Claims.{nodes-step}
pub use Rattle.orch_core.proofs.CommandsProofs.Needed.{needed-used}
pub use Rattle.orch_core.proofs.Finishing.{AsksNever, AsksNothing, Ran-append, asks-round, step-any}
pub use Rattle.orch_core.proofs.KnowledgeProofs.Causes.{cause-behind, cause-fine, cause-later, cause-stays}
pub use Rattle.orch_core.proofs.Prelude.{All-append, BookState, ClaimState, FinishedBy, LeadsTo, StepsTo, WasCutShort, act_claimed, acts, after_done}
pub use Rattle.orch_core.proofs.Prelude.{after_rounds, append-nil, err_from_is_err_and, false≢true, fold-append, get_or_from_slice_get, held_step}
pub use Rattle.orch_core.proofs.Prelude.{kept_by, map-append, polls, replicates, round_over, run_turns, slice_get-get_or, take-append-add, take_more}
pub use Rattle.orch_core.proofs.Prelude.{times, turns_of}
unfoldable pub use Rattle.orch_core.proofs.Prelude.{by_name}
pub use Rattle.orch_core.proofs.Runs.{Ran-more, Ran-nil, StepsTo-recorded, cut-at}
pub use Rattle.orch_core.specs.Commands.Table.{nothing}
pub use Rattle.orch_core.specs.Knowledge.declared.fault.TurnFault.TheVariants as fault
pub use Rattle.orch_core.specs.NodeClaims.Claims.{active_by, after_answer, claim_answer, claim_by, is_later, may_act, until_from}
pub use Rattle.orch_core.specs.NodeClaims.declared.claims.ClaimAnswer.TheVariants as claim
pub use Rattle.orch_core.specs.Operations.declared.op.Op.{Op}
pub use Rattle.orch_core.specs.OrchBase.Causes.{HasCause}
pub use Rattle.orch_core.specs.Replies.{done_reply}
pub use Rattle.orch_core.specs.Rounds.{IsFinish}
pub use Rattle.orch_core.specs.Rounds
pub use Rattle.orch_core.specs.Runs.{record_turn}
pub use Rattle.orch_core.specs.Turns.declared.reply.Reply.TheVariants as answered
pub use Rattle.orch_core.specs.Turns.declared.turn.Act.TheVariants as act
pub use Rattle.orch_core.specs.Turns.declared.turn.Step.TheVariants as turns_step
pub use Rattle.orch_core.specs.Turns.declared.turn.Turn.TheVariants as turn
pub use Rattle.scenario_turns.proofs.Prelude.{All-cons, All-head, All-nil, All-tail, BadPattern, Fault, bind-ok, fault_of, flat_map, holds, is_there}
pub use Rattle.scenario_turns.proofs.Prelude.{is_within, length-append, length-map, nat_tests, needs_of, same_Ok, same_Some}
unfoldable pub use Rattle.scenario_turns.proofs.Prelude.{found_in, is_found}
pub use Rattle.scenario_values.specs.declared.fault.ReadFault.{ReadFault}
pub use Rattle.scenario_values.specs.declared.fault.ReadFault.TheVariants as reading
pub use Rattle.tasks.specs.Asked.{AskOfRead, IsAsked, IsTaken, asked_about, asked_at, asked_named, asked_turn, pattern_for, server_from, server_given}
pub use Rattle.tasks.specs.Asked.{server_of, turn_for, used}
unfoldable pub use Rattle.tasks.specs.Asked.{asked_of}
pub use Rattle.tasks.specs.Begun
pub use Rattle.tasks.specs.Closing.{begun_by, closing, closing_by, rounds_while}
unfoldable pub use Rattle.tasks.specs.Closing.{rounds_of}
pub use Rattle.tasks.specs.Endings.{Course, IsOn, IsWhole, Stands, Tells, WasCut, course_of}
pub use Rattle.tasks.specs.Journals.{JournalStands, Told, ToldSome, headed_text, told_in, told_run}
pub use Rattle.tasks.specs.Known.{Begins, IsFixed, all_turns, cut_answer, held_from, opened, task_answer, turns_from}
pub use Rattle.tasks.specs.Laws.{ClaimedCommandsAreTaken, PlansAreAnsweredAsCommands, PlansTellClaimsThatLast, TakenClaimsTakeNoCommand}
pub use Rattle.tasks.specs.Plans.{Planned, begun_state, ground_in, lasting, lasting_by, means_of, planned_by, planned_in, planned_reply, planned_text}
pub use Rattle.tasks.specs.Plans.{recovery_planned, straight, taken_by}
pub use Rattle.tasks.specs.Prelude.{Appends, AppendsFront, Calls, ClaimAnswer, Command, CommandName, CommandTurn, Found, Ground, Held, HostPort}
pub use Rattle.tasks.specs.Prelude.{IsCommand, IsNumberOf, Means, Moment, Own, Places, Purpose, Ran, Recorded, Reply, Rose, Row, Scenario, ServerNo}
pub use Rattle.tasks.specs.Prelude.{StartsBy, State, Tally, Turn, TurnFault, Unended, UnknownInstance, WasCutOff, act_reply, active, after_turns}
pub use Rattle.tasks.specs.Prelude.{changed, claimed, engine, found_of, held_run, is_of, is_open, job_at, kept_at_start, lines_text, list_any}
pub use Rattle.tasks.specs.Prelude.{most_turns, names_of, nodes_of, number_of, option_and_then, option_to_list, own_at, printed, recorder, reply_of}
pub use Rattle.tasks.specs.Prelude.{round_of, same_name, start, start_changes, step, straight_lines, unwrap_or, uses_of, without_turns}
unfoldable pub use Rattle.tasks.specs.Prelude.{is_pattern, line_text, name_of}
pub use Rattle.tasks.specs.Progress.{Adds, Answers, ClosesEach, Ends, EndsCut, EndsEach, EndsWhole, Follows, GaveUp, Gives, GivesUp, GivesUpEach}
pub use Rattle.tasks.specs.Progress.{GivesUpOn, IsFresh, Leads, Point, Stops, StopsBefore, StopsBehind, StopsEach, StopsIn, Tallies, course_from}
pub use Rattle.tasks.specs.Progress.{point, with_reply}
pub use Rattle.tasks.specs.Report.{Answer, answer_of, asked_answer, cut_text, dump_of, extra_answer, is_commands, is_failure, is_refusal, is_refused}
pub use Rattle.tasks.specs.Report.{last_reply, or_reply, own_answer, plan_answer_by, replies_text, summary_of, tables_of, tally_of, told_answer}
pub use Rattle.tasks.specs.Report.{verdict_of, without_tables}
unfoldable pub use Rattle.tasks.specs.Report.{any_refused, plan_answer}
pub use Rattle.tasks.specs.Singles.{Writes, view}
pub use Rattle.tasks.specs.Sinks.{Carries, End, FailsIn, IsHanded, IsOnTheWay, Stays, Taken, Takes, TakesFront, between, taken}
pub use Rattle.tasks.specs.Stages.{AllTaken, CutTaken, IsEnd, SomeTaken, Stage, active_in, claim_ahead, claim_without, command_as, is_alone}
pub use Rattle.tasks.specs.Stages.{own_stages, own_turn, stages, taker, taker_by}
pub use Rattle.tasks.specs.Works.{Comes, IsCut, Work}
pub use Rattle.tasks.specs.declared.asked.Asked.{Asked}
pub use Rattle.tasks.specs.declared.asked.Asked.TheVariants as asked
pub use Rattle.tasks.specs.declared.asked.Extra.{Extra}
pub use Rattle.tasks.specs.declared.asked.Task.{Task}
pub use Rattle.tasks.specs.declared.ending.Ending.{Ending}
pub use Rattle.tasks.specs.declared.ending.Ending.TheVariants as ends
pub use Rattle.tasks.specs.declared.pieces.Pieces.{Pieces}
pub use Rattle.tasks.specs.declared.progress.Progress.{Progress}
pub use Rattle.tasks.specs.declared.verdict.Verdict.{Verdict}
pub use Rattle.tasks.specs.declared.verdict.Verdict.TheVariants as verdict
