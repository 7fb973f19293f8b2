-- What this crate's definitions and contracts cite of others.
pub use Rattle.std.specs.Option.{option_map}
pub use Rattle.live_desk.specs.Desks.{run_of}
pub use Rattle.live_desk.specs.Ends.{IsLive, rows_after}
pub use Rattle.live_desk.specs.Entries.{Entry, turns_in}
pub use Rattle.schedules.specs.Turns.{schedule_line}
pub use Rattle.top_call.specs.CommandLine.Places.{is_live}
pub use Rattle.top_call.specs.Ends.{AskToDraw, Call, DrawEnds, Ends, EndsBy, FailsByKeeper, FaultsBy, FaultsOf, Idles, IfDrawn, IsComplete, IsGood, IsReported}
pub use Rattle.top_call.specs.Ends.{IsParse, IsUsage, NoneRose, ReadsWhole, Reports, UsageOf, call, status_of}
pub use Rattle.top_call.specs.Faults.{fault_text}
pub use Rattle.top_call.specs.KeptRows.Keeping.{HasKeeperCause, KeepsAll}
pub use Rattle.top_call.specs.KeptRows.Rows.{changed}
pub use Rattle.top_call.specs.KeptRows.declared.row.Change.{Change}
pub use Rattle.top_call.specs.KeptRows.declared.row.Change.TheVariants.{Put}
pub use Rattle.top_call.specs.OrchBase.Gives.{Gives}
pub use Rattle.top_call.specs.OrchBase.Names.{HostPort}
pub use Rattle.top_call.specs.Prelude.{CommandTurn, Consumes, Docket, Drawing, End, Ending, FailsIn, Fault, HasKeepersCause, IsFinish, IsQuiet}
pub use Rattle.top_call.specs.Prelude.{IsScenario, IsTaken, Line, Places, Recorded, Recovery, Refusal, Rose, Row, Scenario, State, Takes, TakesFront}
pub use Rattle.top_call.specs.Prelude.{TakesLine, Task, Turn, Usage, Work, across, course_of, job_at, names_of, reply_of, task_answer, task_of}
unfoldable pub use Rattle.top_call.specs.Prelude.{places_of, scenario_in}
pub use Rattle.top_call.specs.Promises.{Promises}
pub use Rattle.top_call.specs.Reads.{OfRead, ReadsAs}
pub use Rattle.top_call.specs.Report.{ByReport, EndsAs, KeepsRows, WritesErr, WritesOut}
pub use Rattle.top_call.specs.RunLaws.Runs.{ComesTo}
pub use Rattle.top_call.specs.Runs.{BeginsApart, Finishes, IsActiveAlone, IsSafeState, Obeys, TellsHooks, TellsTruly}
unfoldable pub use Rattle.top_call.specs.ScenarioDump.Texts.{dump_text}
pub use Rattle.top_call.specs.ScenarioValues.Faults.{fault_of, holds, under}
pub use Rattle.top_call.specs.ScenarioValues.declared.fault.FaultCode.TheVariants.{NodeTurn}
pub use Rattle.top_call.specs.Scenarios.Scenarios.{flushes_of, room_of}
pub use Rattle.top_call.specs.Scenarios.ValidTurns.{IsTurnOf}
pub use Rattle.top_call.specs.Tasks.Endings.{IsWhole}
pub use Rattle.top_call.specs.Tasks.Journals.{told_run}
pub use Rattle.top_call.specs.Tasks.Report.{report_text, run_answer}
unfoldable pub use Rattle.top_call.specs.Tasks.Report.{any_refused}
pub use Rattle.top_call.specs.Tasks.Stages.{is_alone}
pub use Rattle.top_call.specs.Tasks.declared.asked.Asked.TheVariants as asked
pub use Rattle.top_call.specs.Tasks.declared.asked.Extra.{Extra}
pub use Rattle.top_call.specs.Tasks.declared.ending.Ending.TheVariants as ends
pub use Rattle.top_call.specs.Turns.declared.reply.Reply.TheVariants as answered
pub use Rattle.top_call.specs.Turns.declared.turn.Act.TheVariants as act
pub use Rattle.top_call.specs.Turns.declared.turn.Turn.TheVariants as turn
pub use Rattle.top_call.specs.UnendedJobs.declared.unended.Unended.TheVariants as unended
pub use Rattle.top_call.specs.declared.way.Way.{Way}
pub use Rattle.top_call.specs.declared.way.Way.TheVariants as way
