-- What its proofs cite of others.
pub use Rattle.std.proofs.lemmas.Bool.{and_parts, eqb-true, not-true}
pub use Rattle.std.proofs.lemmas.List.{append-nil}
pub use Rattle.std.proofs.lemmas.Result.{err_from_is_err_and}
pub use Rattle.std.specs.Option.{option_and_then}
pub use Rattle.live_calls.specs.Alike.{SchedulesRunAlike, with_turns}
pub use Rattle.live_calls.specs.Dumps.{DumpsAreOfWhatIsLeft, RefusedCommandsLeaveTheState}
pub use Rattle.live_calls.specs.Ends.{AskLive, IsPlain, LiveEnds, Lives, RunsAlone}
pub use Rattle.live_calls.specs.Prelude.{Change, Entry, Extra, FailsIn, FaultsBy, IsLive, IsQuiet, Way, across, flushes_of, is_live, reply_of}
pub use Rattle.live_calls.specs.Prelude.{room_of, rows_after, run_answer, run_of, schedule_line, told_run, turns_in}
unfoldable pub use Rattle.live_calls.specs.Prelude.{dump_text}
pub use Rattle.live_calls.specs.Reads.{live_scenario, of_one, one_node}
pub use Rattle.live_calls.specs.Reports.{Delivers, LiveReport, LiveTells, Ran, live_report, puts, run_report}
pub use Rattle.live_calls.specs.Runs.{LiveGoesWell, live_work}
pub use Rattle.live_desk.specs.Desks.{opening}
pub use Rattle.live_desk.specs.Ends.{state_after}
pub use Rattle.top_call.proofs.Ends.{counted, each, idles, keeper_rose, known, lifted, no_usage, none_or_some, not_both, of_done, of_four}
pub use Rattle.top_call.proofs.Ends.{memory_usage, of_three, of_two, parse_bad, parse_ok, reads_at, told_of_faults, undrawn, unmoved}
pub use Rattle.top_call.proofs.Prelude.{Answer, Asked, AskToDraw, Call, Comes, Consumes, DrawEnds, Drawing, End, Ending, FailsByKeeper, Fault, FaultsAs, Gives}
pub use Rattle.top_call.proofs.Prelude.{Ends, Held, HostPort, Idles, IsComplete, IsGood, IsReported, IsTaken, IsUsage, LeadsTo, NoneRose, OfRead, Places}
pub use Rattle.top_call.proofs.Prelude.{ReadFault, ReadsAs, ReadsWhole, Recorded, Rose, Row, Scenario, ServerNo, State, Taken, Takes, TakesFront}
pub use Rattle.top_call.proofs.Prelude.{TakesLine, Task, Turn, Usage, active_in, answer_of, between, call, changed, claim_ahead, claim_without}
pub use Rattle.top_call.proofs.Prelude.{closing, closing_by, command_as, drawing_of, fault_of, fault_text, held_run, is_alone, names_of}
pub use Rattle.top_call.proofs.Prelude.{option_to_list, own_turn, recorder, run_turns, scenario_in_sound, stages, start, status_of, stop_by, taken}
pub use Rattle.top_call.proofs.Prelude.{taken_have, taker, takes_nothing, turns_of, without_turns}
unfoldable pub use Rattle.top_call.proofs.Prelude.{asked_of, places_of, scenario_in}
pub use Rattle.top_call.proofs.Reports.{both, err_by, kept_by_report, out_by, status_told}
pub use Rattle.top_call.proofs.Runs.{alone, begins, finishes, holds, hooks, loses, obeys_at, promised, whole_comes}
pub use Rattle.top_call.proofs.ScenarioValues.Unders.{gives_under}
pub use Rattle.top_call.proofs.TasksProofs.Own.{told_none, told_one}
pub use Rattle.top_call.specs.CommandLine.Commands.{own_at}
pub use Rattle.top_call.specs.CommandLine.Places.{drawing_by, is_live_word}
pub use Rattle.top_call.specs.CommandLine.Taken.{AreTaken}
pub use Rattle.top_call.specs.CommandLine.declared.command.Own.{Own}
pub use Rattle.top_call.specs.CommandLine.declared.command.Own.TheVariants as own
pub use Rattle.top_call.specs.CommandLine.declared.usage.Usage.TheVariants as usage
unfoldable pub use Rattle.top_call.specs.Commands.Names.{name_of}
pub use Rattle.top_call.specs.Commands.declared.name.CommandName.{CommandName}
pub use Rattle.top_call.specs.Commands.declared.refusal.Refusal.TheVariants.{NotQuiet}
pub use Rattle.top_call.specs.NodeClaims.Claims.{made}
pub use Rattle.top_call.specs.OpeningBook.Counting.{last_read}
pub use Rattle.top_call.specs.OpeningBook.Opening.{loading, opened_book, opening_changes}
pub use Rattle.top_call.specs.OrchCore.Nodes.{holder_of}
pub use Rattle.top_call.specs.OrchCore.Polls.{empty_slots}
pub use Rattle.top_call.specs.OrchCore.Starts.{configuration_of, loaded_audit, loaded_book, start_claim, start_moment, start_rows}
pub use Rattle.top_call.specs.Prelude.{Fails, closed, period_of, step}
pub use Rattle.top_call.specs.ScenarioValues.declared.fault.ReadFault.TheVariants as reading
pub use Rattle.top_call.specs.ServerModel.Worlds.{World}
pub use Rattle.top_call.specs.Tasks.Asked.{asked_about, asked_at, asked_named, asked_turn, turn_for}
pub use Rattle.top_call.specs.Tasks.Begun.{begun_by}
pub use Rattle.top_call.specs.Tasks.Journals.{JournalStands}
pub use Rattle.top_call.specs.Tasks.Report.{asked_answer, dump_of, told_answer}
pub use Rattle.top_call.specs.Tasks.Stages.{AllTaken, own_stages}
pub use Rattle.top_call.specs.Tasks.declared.asked.Asked.TheVariants as asked
pub use Rattle.top_call.specs.Tasks.declared.asked.Extra.TheVariants as extra
pub use Rattle.top_call.specs.Tasks.declared.ending.Ending.TheVariants as ends
pub use Rattle.top_call.specs.Turns.declared.reply.Reply.{Reply}
pub use Rattle.top_call.specs.Turns.declared.reply.Reply.TheVariants as answered
pub use Rattle.top_call.specs.Turns.declared.turn.Act.TheVariants as act
pub use Rattle.top_call.specs.Turns.declared.turn.Turn.TheVariants as turn
pub use Rattle.top_call.specs.WorldOpenings.Opening.{opened_world}
pub use Rattle.top_call.specs.declared.reading.Stop.{Stop}
pub use Rattle.top_call.specs.declared.reading.Stop.TheVariants as stops
pub use Rattle.top_call.specs.declared.way.Way.TheVariants as way
