-- What its proofs cite of others.
pub use Rattle.std.proofs.lemmas.List.Elements.{All-take}
pub use Rattle.command_line.specs.declared.usage.Usage.TheVariants as usage
pub use Rattle.recovery_runs.proofs.Booking.{books-comes}
pub use Rattle.recovery_runs.proofs.Ended.{failure-comes}
pub use Rattle.recovery_runs.proofs.Failing.{fail-comes}
pub use Rattle.recovery_runs.proofs.Looks.{looks-before}
pub use Rattle.recovery_runs.proofs.NameOrder.Arranged.{by_name-within}
pub use Rattle.recovery_runs.proofs.OrchCore.Finishing.{named-round, turns-round}
pub use Rattle.recovery_runs.proofs.RunLaws.Acting.{active-alike, held-last, lapsed-keep-nothing, passing-is-restart, renewing-alone, taken-nothing}
pub use Rattle.recovery_runs.proofs.RunLaws.Aims.{turn-aimed}
pub use Rattle.recovery_runs.proofs.RunLaws.Audits.{Follow-whole, FollowAudit-whole}
pub use Rattle.recovery_runs.proofs.RunLaws.ClaimKept.{claim-row-whole}
pub use Rattle.recovery_runs.proofs.RunLaws.Counting.{apart-comes, reckoned-comes}
pub use Rattle.recovery_runs.proofs.RunLaws.Failures.{plans-done, plans-fail, spends-last}
pub use Rattle.recovery_runs.proofs.RunLaws.Fates.{restart-comes, turn-fates}
pub use Rattle.recovery_runs.proofs.RunLaws.Hands.{plans-return}
pub use Rattle.recovery_runs.proofs.RunLaws.JobEntries.{jobs-comes}
pub use Rattle.recovery_runs.proofs.RunLaws.JobTurns.{named-job, others-stay}
pub use Rattle.recovery_runs.proofs.RunLaws.Lines.{scan-tries}
pub use Rattle.recovery_runs.proofs.RunLaws.LinesHold.{plans-hold}
pub use Rattle.recovery_runs.proofs.RunLaws.Lowest.{lowest-refuses}
pub use Rattle.recovery_runs.proofs.RunLaws.Marks.{found-end, matches-end}
pub use Rattle.recovery_runs.proofs.RunLaws.Moments.{jobs-rise, last-never-sinks, passes-time, past-comes}
pub use Rattle.recovery_runs.proofs.RunLaws.NodeClaims.{acting-alone, begun-since, every-kept, every-many, every-one, every-reached, lapsed-idle}
pub use Rattle.recovery_runs.proofs.RunLaws.NodeClaims.{passing-drops, passing-restarts, waits}
pub use Rattle.recovery_runs.proofs.RunLaws.Parts.{apart-in-turn, periods-in-turn}
pub use Rattle.recovery_runs.proofs.RunLaws.Permissions.{answers_by_table, begun_joins, begun_kept, begun_leased, begun_logged, begun_number}
pub use Rattle.recovery_runs.proofs.RunLaws.Permissions.{begun_there, refused_changes_nothing}
pub use Rattle.recovery_runs.proofs.RunLaws.Readings.{discoveries-read, jobs-store, openings-give-numbers, polls-read, polls-store}
pub use Rattle.recovery_runs.proofs.RunLaws.Readings.{readings-never-sink, restarts-count-on}
pub use Rattle.recovery_runs.proofs.RunLaws.RunLaws.{Goes, Goes-comes}
pub use Rattle.recovery_runs.proofs.RunLaws.Staying.{instances-stay}
pub use Rattle.recovery_runs.proofs.RunLaws.Unasked.{scans-unasked}
pub use Rattle.recovery_runs.proofs.RunLaws.Waits.{begun-may-wait, jobs-may-wait}
pub use Rattle.recovery_runs.proofs.Tending.{began-comes, finish-comes, scenarios-comes, still-comes, told-next}
pub use Rattle.recovery_runs.proofs.TurningWell.{turn-comes}
pub use Rattle.recovery_runs.specs.OpeningBook.Following.{FollowAudit}
pub use Rattle.recovery_runs.specs.OrchBase.Whole.{length_fault, whole}
pub use Rattle.recovery_runs.specs.OrchBase.declared.failed.NotRead.{NotRead}
pub use Rattle.recovery_runs.specs.OrchBase.declared.failed.NotRead.TheVariants as not_read
pub use Rattle.recovery_runs.specs.RunLaws.Following.{held_from}
pub use Rattle.recovery_runs.specs.RunLaws.Ready.{Ready}
pub use Rattle.recovery_runs.specs.RunLaws.Runs.{ComesTo}
pub use Rattle.recovery_runs.specs.Scenarios.ValidTurns.{IsTurn, IsTurnOf, NamesOneOf}
pub use Rattle.recovery_runs.specs.Turns.declared.turn.Act.TheVariants as act
pub use Rattle.recovery_runs.specs.Turns.declared.turn.Turn.TheVariants as turn
pub use Rattle.recovery_runs.specs.UnendedJobs.declared.unended.Unended.TheVariants as unended
pub use Rattle.scenario_reader.proofs.Sound.{scenario_in_sound}
pub use Rattle.scenario_reader.specs.Prelude.{Gives, MAX_SCENARIO_LEN, TooLong}
pub use Rattle.scenario_reader.specs.ScenarioValues.declared.fault.ReadFault.TheVariants as reading
pub use Rattle.tasks.proofs.Courses.{run_state}
pub use Rattle.tasks.proofs.Known.{cut_begins, cut_is, on_is, whole_is}
pub use Rattle.tasks.proofs.Prelude.{All-append, All-cons, All-nil, Answer, AskOfRead, Comes, CommandTurn, End, Fault, Held, HostPort, IsAsked}
pub use Rattle.tasks.proofs.Prelude.{IsCommand, IsNumberOf, IsOn, IsTaken, IsWhole, LeadsTo, Places, Ran, Ran-append, ReadFault, Recorded, Rose, Row}
pub use Rattle.tasks.proofs.Prelude.{Scenario, ServerNo, SomeTaken, Stage, StartsBy, State, Taken, Takes, TakesFront, Tells, Turn, WasCut, Work}
pub use Rattle.tasks.proofs.Prelude.{active_in, after_turns, answer_of, between, changed, claim_ahead, claim_without, closing, closing_by, command_as}
pub use Rattle.tasks.proofs.Prelude.{course_of, cut_answer, cut_text, engine, fault_of, held_run, held_step, is_alone, is_open, job_at, kept_at_start}
pub use Rattle.tasks.proofs.Prelude.{length-map, most_turns, names_of, nat_tests, nodes_of, option_to_list, own_turn, recorder, round_of}
pub use Rattle.tasks.proofs.Prelude.{rounds_while, run_turns, same_Some, stages, start, start_changes, taken, taken_have, taker, task_answer}
pub use Rattle.tasks.proofs.Prelude.{turns_of, without_turns}
unfoldable pub use Rattle.tasks.proofs.Prelude.{asked_of, by_name, rounds_of}
pub use Rattle.tasks.proofs.Sends.{front_more, front_of_longer, nothing_is_front, rose_later, takes_more, takes_nothing, whole_is_front}
pub use Rattle.tasks.proofs.Stages.{all_some, some_ran}
pub use Rattle.tasks.proofs.Takers.{taker_is}
pub use Rattle.tasks.proofs.Words.{asked_is}
pub use Rattle.tasks.specs.Closing.{own_job}
pub use Rattle.tasks.specs.declared.asked.Asked.{Asked}
pub use Rattle.tasks.specs.declared.asked.Asked.TheVariants as asked
pub use Rattle.tasks.specs.declared.ending.Ending.TheVariants as ends
pub use Rattle.top_call.specs.Ends.{AskARead, Asks, AskToDraw, Call, Closes, DrawEnds, Ends, EndsBy, FailsByKeeper, FaultsAs, FaultsFor, Idles}
pub use Rattle.top_call.specs.Ends.{IsComplete, IsGood, IsParse, IsReported, IsTask, IsUsage, NoneRose, ReadsWhole, call, drawn_text, status_of}
pub use Rattle.top_call.specs.Faults.{fault_text}
pub use Rattle.top_call.specs.Prelude.{Consumes, Docket, Drawing, Ending, HasKeepersCause, IsClaimRow, IsDrawn, IsFinish, IsOnOwn, IsOnTurns}
pub use Rattle.top_call.specs.Prelude.{IsRising, IsScenario, Line, Recovery, TakesLine, Task, Usage, claim_key, drawing_of, row_in, task_of}
unfoldable pub use Rattle.top_call.specs.Prelude.{places_of, scenario_in}
pub use Rattle.top_call.specs.Promises.{Promises}
pub use Rattle.top_call.specs.Reads.{OfRead, ReadsAs, stop_by}
pub use Rattle.top_call.specs.Report.{EndsAs, IsToWrite, KeepsRows, Report, TakesBehind, WritesErr, WritesOut, drawn_report, read_report, report}
pub use Rattle.top_call.specs.Report.{taken_report, task_report, words_report, written_status}
pub use Rattle.top_call.specs.Runs.{ActAlone, AreSoFar, BeginApart, BeginsApart, Finishes, FinishWell, IsActiveAlone, IsSafeRun, IsSafeState}
pub use Rattle.top_call.specs.Runs.{KeepsTime, KeepTime, LookFirst, LooksFirstIn, Obeys, ObeysTable, OwnClaimRow, OwnRestartKeepsAll, StoresReadings}
pub use Rattle.top_call.specs.Runs.{TellHooks, TellsHooks, TellsTruly, TellTruly, Through}
pub use Rattle.top_call.specs.declared.reading.Stop.{Stop}
pub use Rattle.top_call.specs.declared.reading.Stop.TheVariants as stops
pub use Rattle.top_call.specs.declared.way.Way.{Way}
pub use Rattle.top_call.specs.declared.way.Way.TheVariants as way
