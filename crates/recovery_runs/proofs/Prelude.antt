-- What its proofs cite of others.
pub use Rattle.std.proofs.lemmas.Bool.{false_from_ne_true}
pub use Rattle.std.proofs.lemmas.Option.{slice_get_cases}
pub use Rattle.recovery_covers.proofs.Decided.{IsStuck}
pub use Rattle.recovery_covers.proofs.Prelude.{LeasedRecovery}
pub use Rattle.recovery_covers.proofs.Staying.{same-aim, taken-aim, then-aim}
pub use Rattle.recovery_covers.proofs.Telling.{all-told, leader-told}
pub use Rattle.recovery_covers.proofs.Times.{self-times}
pub use Rattle.recovery_covers.proofs.Turning.{decides-before}
pub use Rattle.recovery_covers.specs.Covers.{Covers, follower_nos, listed, lost_nos}
pub use Rattle.recovery_covers.specs.RecoveryLaws.Standing.{IsRuling}
pub use Rattle.recovery_covers.specs.SoFar.{CoversAt, CoversSoFar, IsClosed, OldFollows}
pub use Rattle.recovery_reasons.proofs.Answering.{turn-answered}
pub use Rattle.recovery_reasons.proofs.Causing.{cause-true}
pub use Rattle.recovery_reasons.proofs.Changing.{turn-its}
pub use Rattle.recovery_reasons.proofs.Facts.{begun-explained}
pub use Rattle.recovery_reasons.proofs.Fatal.{fatal-ends}
pub use Rattle.recovery_reasons.proofs.Nobody.{finds-nobody}
pub use Rattle.recovery_reasons.proofs.OnWay.{Fine, decides-fine, done-fit, still-on}
pub use Rattle.recovery_reasons.proofs.Prelude.{AllFit, Attempt, Bearing, Contains-append_cases, Contains-push, Decision, Decisions, ExplainsTruly}
pub use Rattle.recovery_reasons.proofs.Prelude.{Fact, Fate, Follower, HasNobody, HeldRecovery, IsExplained, IsOnWay, IsTrueOf, MayDecide, Speaks}
pub use Rattle.recovery_reasons.proofs.Prelude.{Turning, acted, after_look, attempted, barred_by, begun_recovery, by_queue, decided, decided-walks}
pub use Rattle.recovery_reasons.proofs.Prelude.{decides-idle, decisions-keep, ends, fate, first_stage, info, is_waiting, last_looks, met, next}
pub use Rattle.recovery_reasons.proofs.Prelude.{on_going, once, saw, spoken_to, status_in, stepped, taken, taken-walks, went-of, working}
pub use Rattle.recovery_reasons.proofs.Readings.{ReadsNow, ShowsNow, read-now}
pub use Rattle.recovery_reasons.proofs.Undoing.{fails-opening, fails-starting, turn-hands}
pub use Rattle.recovery_reasons.proofs.Waiting.{turn-waits}
pub use Rattle.recovery_runs.specs.Begun.{AreHooksOf, BeginsOnce, ComesOf, HasHooks, IsBegunOnce, TellsAll, jobs_begun, jobs_done, jobs_in_act, jobs_of}
pub use Rattle.recovery_runs.specs.Booking.{BooksAtLast, HasSeen, HasSo, IsBelow, LoadGiven, LoadsGiven, LooksAt, RecoveriesBookTheirEnd, SawSo}
pub use Rattle.recovery_runs.specs.Booking.{TakesWrites}
pub use Rattle.recovery_runs.specs.Facts.{ExplainedState, ExplainsAct, ExplainsDone, ExplainsTurn, HasFacts}
pub use Rattle.recovery_runs.specs.Failing.{FailsTruly, Fatal, IsEndedByHook, IsFailing, Nobody, Reached, RecoveriesFailForWhatBefell, ShowsFailed}
pub use Rattle.recovery_runs.specs.Failing.{Sourced, StopsTruly}
pub use Rattle.recovery_runs.specs.Failing as failing
pub use Rattle.recovery_runs.specs.Finishes.{IsFailure, IsFinish, KeepsHistories, OwesNothing, TellsFailed, done_with, finished_so, own_lines}
pub use Rattle.recovery_runs.specs.Finishes.{promoted_then, ran_lines, recovery_after, told_hooks, turn_hooked, turn_taken}
pub use Rattle.recovery_runs.specs.Looks.{AnswersHook, FirstFoundAway, LooksBefore, LooksFirst, MeetsMaster, NoneWas, unsuccessful}
pub use Rattle.recovery_runs.specs.Origins.{Began, BeganIn, ExplainsAlong, IsStill, StaysStill}
pub use Rattle.recovery_runs.specs.Prelude.{CoveredJobs, IsAimedBeside, IsBeginning, IsEarly, IsFresh, IsOfDead, IsOfDocket, IsTended, IsTold}
pub use Rattle.recovery_runs.specs.Prelude.{IsToldOf, Keeps, KeepsUp, KeptJobs, NumbersAreGiven, Passes, SameAim, UpJobs, alias_of, all_before}
pub use Rattle.recovery_runs.specs.Prelude.{all_behind, begun_hooks, crowns, due_before, has_source, owed, told_of}
pub use Rattle.recovery_runs.specs.RunFinishes.{AreScenarios, FailsWell, FinishesWell}
pub use Rattle.recovery_runs.specs.States.{AimedState, CoveredState, IsTendedBeside, KeptState, SpeakingState, TendedState, UpState}
pub use Rattle.recovery_runs.specs.TurnsWell.{RecoveriesTurnWell, decided_at}
pub use Rattle.run_laws.proofs.Aims.{scan-each}
pub use Rattle.run_laws.proofs.Came.{Came, ReadsOn, act-reads, turn-reads}
pub use Rattle.run_laws.proofs.Came as came
pub use Rattle.run_laws.proofs.CauseLaws.Turning.{stopped-befell}
pub use Rattle.run_laws.proofs.Flown.{flown}
pub use Rattle.run_laws.proofs.Naming.{recovery-names, regroup-are, scan-names, takeover-knows, takeover-names}
pub use Rattle.run_laws.proofs.Once.{filtered-all, filtered-few, filtered-none, ordered-once}
pub use Rattle.run_laws.proofs.OrchCore.Comes as comes
pub use Rattle.run_laws.proofs.Passing.{step-may}
pub use Rattle.run_laws.proofs.Periods.{configured, short-by}
pub use Rattle.run_laws.proofs.Prelude.{Act, All-append, All-cons, All-contains, All-contains_itself, All-find, All-head, All-nil, All-tail}
pub use Rattle.run_laws.proofs.Prelude.{All-weaker, AreShort, AuditState, Befell, BeginInTurn, Begins, BookState, Cause, Change, Code, Comes, ComesTo}
pub use Rattle.run_laws.proofs.Prelude.{Command, CommandTurn, Configuration, Contains-append_left, Contains-append_right, Deed, Docket, Does, Ending}
pub use Rattle.run_laws.proofs.Prelude.{Exchange, Failure, Flight, HeldState, Hook, Hooked, HookState, HostPort, Instance, IsAct, IsAskedFor, IsBook}
pub use Rattle.run_laws.proofs.Prelude.{IsCommand, IsKeptSo, IsQuiet, IsReady, IsTurn, IsUnder, Job, JobStep, KeepsAlways, Line, Means, Moment}
pub use Rattle.run_laws.proofs.Prelude.{NamesReplicasOnce, Observation, Op, Outcome, Planner, Purpose, Ready, RecoveryJob as Recovery, Refusal, Row}
pub use Rattle.run_laws.proofs.Prelude.{Safe, Scenario, Server, ServerNo, SoundState, Stage, State, Status, Step, Taken, Turn, Unended, Update, World}
pub use Rattle.run_laws.proofs.Prelude.{acked_so, acknowledged_at, act-fits, act_asks, act_in, actionable_in, after_act, after_done, all-turned}
pub use Rattle.run_laws.proofs.Prelude.{always, append-nil, as_read, asked, asks, attached_no, attempt_in, borne, by_deed, by_hand, changes_by}
pub use Rattle.run_laws.proofs.Prelude.{changes_of, closed_by, closing_at, closing_changes, closing_for, closing_of, code_at, command-comes}
pub use Rattle.run_laws.proofs.Prelude.{command_outcome, configuration_of, decided_by, deed_of, done_asks, ended, ended_by, ended_so, engine, entered}
pub use Rattle.run_laws.proofs.Prelude.{eq-eqb, eqb-false, eqb-true, exchange_of, exchanges_at, false≢true, fate_of, first_op, first_ops}
pub use Rattle.run_laws.proofs.Prelude.{first_source, flight_of, flown-number, follows_no_more, found-number, front_hook, front_turn, given-there}
pub use Rattle.run_laws.proofs.Prelude.{ground_of, hooked, hooked-has, instance_at, is_going, is_replica_of, is_takeover, job_at, job_by}
pub use Rattle.run_laws.proofs.Prelude.{job_exchanges, job_in, job_observation, job_reply, jobs_turned, kept-whole, known_of, label_at, leaver}
pub use Rattle.run_laws.proofs.Prelude.{means_of, moment_at, moved, ne_eqb, next_count, none-some, number_of, numbers_of, observed, option_map}
pub use Rattle.run_laws.proofs.Prelude.{option_to_list, pollers, position_of, promoted_in, purpose_by, put_recovery, rear_hook, rear_turn}
pub use Rattle.run_laws.proofs.Prelude.{recovery_at, recovery_begins, recovery_job, recovery_refusal, regroup_about, replicas_of, reply_of, run}
pub use Rattle.run_laws.proofs.Prelude.{run_turns, same-head, same-no, same-tail, same_Some, scan-in-turn, scan_in, scan_outcome, seen-at, seen_in}
pub use Rattle.run_laws.proofs.Prelude.{seen_of, server_at, shown_at, shown_of, slice_get_within, slot_at, source_of, start, status, step, step_reply}
pub use Rattle.run_laws.proofs.Prelude.{takeover_begins, takeover_refusal, takes, times, turn_of, turned_at, turns_of, unless_hook, unless_refused}
pub use Rattle.run_laws.proofs.Prelude.{updated, with_told}
pub use Rattle.run_laws.proofs.Prelude.{IsForgotten, IsHeldBeside, IsLeased, is_attached_to, leases_of, route_of, seen_source}
unfoldable pub use Rattle.run_laws.proofs.Prelude.{by_name}
pub use Rattle.run_laws.proofs.Readings.{jobs-store, openings-give-numbers, turn-stores}
pub use Rattle.run_laws.proofs.ReadyOutcomes.{given-in, within-book}
pub use Rattle.run_laws.proofs.RecoveryCore.Entries.{actionable-entries}
pub use Rattle.run_laws.proofs.ReplicationLaws.Runs as exchanges
pub use Rattle.run_laws.proofs.RunLaws.{Goes, Goes-start, Goes-step}
pub use Rattle.run_laws.proofs.ServerModel.Lists.{slice_get-snoc_cases}
pub use Rattle.run_laws.proofs.Staying.{instances-stay}
pub use Rattle.run_laws.proofs.TurnJobs.{acts-fit, turn-keeps}
pub use Rattle.run_laws.proofs.UnendedLaws.Checking.{tended-still}
pub use Rattle.run_laws.proofs.UnendedLaws.CoveredBeside.{apart-stays, none-aimed, none-covered, none-kept, none-speak, outside-stays}
pub use Rattle.run_laws.proofs.UnendedLaws.CoveredBeside.{recovery-covered, recovery-kept, recovery-speaks}
pub use Rattle.run_laws.proofs.UnendedLaws.CoveredTurning.{number-aimed, number-covered, number-kept, number-speaking}
pub use Rattle.run_laws.proofs.UnendedLaws.Ending.{done-chain, done-named, done-old, done-placed, done-promoted, done-told, last-aim, turn-aim}
pub use Rattle.run_laws.proofs.UnendedLaws.Ending.{turn-changes, turn-chooses, turn-explained, turn-held, turn-rings, turn-sends, turn-speaks}
pub use Rattle.run_laws.proofs.UnendedLaws.Ending.{turn-due, turn-spares, turn-whole}
pub use Rattle.run_laws.proofs.UnendedLaws.Lasting.{old-leased}
pub use Rattle.recovery_reasons.specs.Prelude.{IsAny}
pub use Rattle.run_laws.proofs.UnendedLaws.Staying.{begun-tended, early-turn, of-docket, tended-turn}
pub use Rattle.run_laws.proofs.UnendedLaws.Telling.{done-docket, failed-docket, none-docket, reached-docket}
pub use Rattle.run_laws.proofs.UnendedLaws.UpTurns.{done-ups, exchange-ups, none-ups, number-up, recovery-up, turn-finds, turn-shuts, turn-stands}
pub use Rattle.run_laws.proofs.Worlds.{world-turn}
pub use Rattle.run_laws.specs.AuditLog.Audits
pub use Rattle.run_laws.specs.CommandOutcomes.HookTelling.{hooks_by}
pub use Rattle.run_laws.specs.CommandOutcomes.declared.command.Update.TheVariants as update
pub use Rattle.run_laws.specs.Commands.declared.cause.Cause.TheVariants as cause
pub use Rattle.run_laws.specs.Commands.declared.route.Route.TheVariants as route
pub use Rattle.run_laws.specs.HookTexts.declared.hooks.Hooks.{Hooks}
pub use Rattle.run_laws.specs.HookTexts.declared.values.Values.{Values}
pub use Rattle.run_laws.specs.InstanceKeeper.Leases
pub use Rattle.run_laws.specs.JobLaws.Passages as pass
pub use Rattle.run_laws.specs.KeptRows.declared.recovery.Recovery as KeptRows
pub use Rattle.run_laws.specs.Operations.Deeds as deed
pub use Rattle.run_laws.specs.Operations.Turns as attempt
pub use Rattle.run_laws.specs.Operations.declared.op.Op.TheVariants as op
pub use Rattle.run_laws.specs.Operations.declared.step.JobStep.TheVariants as job_step
pub use Rattle.run_laws.specs.OrchBase.declared.recovery.Ending.TheVariants as ending
pub use Rattle.run_laws.specs.RecoveryCore.Endings
pub use Rattle.run_laws.specs.RecoveryCore.Recoveries
pub use Rattle.run_laws.specs.RecoveryCore.Scans.{IsEntryIn}
pub use Rattle.run_laws.specs.RecoveryCore.Takeovers.{comes_below, followers_of}
pub use Rattle.run_laws.specs.RecoveryCore.declared.attempt.Attempt as RecoveryPermits
pub use Rattle.run_laws.specs.RecoveryCovers.Covers.{IsAsNamed}
pub use Rattle.run_laws.specs.RecoveryHooks.Runs.{checked, failed_lines, ran_after, ran_before}
pub use Rattle.run_laws.specs.RecoveryPlans.Moves.{AtEnd}
pub use Rattle.run_laws.specs.RecoveryPlans.Moves as by
pub use Rattle.run_laws.specs.RecoveryPlans.Named.{IsNamedRecovery}
pub use Rattle.run_laws.specs.RecoveryPlans.Recoveries as RecoveryPlans
pub use Rattle.run_laws.specs.RecoveryPlans.Table as table
pub use Rattle.run_laws.specs.RecoveryPlans.Taking.{goes_on, source_cause}
pub use Rattle.run_laws.specs.RecoveryPlans.Taking as taking
pub use Rattle.run_laws.specs.RecoveryPlans.Telling.{result_lines, told_by}
pub use Rattle.run_laws.specs.RecoveryPlans.declared.means.Means.TheVariants as means
pub use Rattle.run_laws.specs.RecoveryPlans.declared.purpose.Purpose.TheVariants as purpose
pub use Rattle.run_laws.specs.RecoveryPlans.declared.stage.Stage.TheVariants as stage
pub use Rattle.run_laws.specs.ServerWords.declared.status.StatusFault.TheVariants as seeing
pub use Rattle.run_laws.specs.Turns.declared.reply.Reply.TheVariants as answered
pub use Rattle.run_laws.specs.Turns.declared.turn.Act.TheVariants as act
pub use Rattle.run_laws.specs.Turns.declared.turn.Step.TheVariants as turns_step
pub use Rattle.run_laws.specs.Turns.declared.turn.Turn.TheVariants as turn
pub use Rattle.run_laws.specs.UnendedJobs.Hooked.{due_at, own_turn, step_before, step_with, told_before, told_with, with_hooks}
pub use Rattle.run_laws.specs.UnendedJobs.declared.unended.Unended.TheVariants as unended
pub use Rattle.run_laws.specs.UnendedLaws.CoveredBeside.{IsCoveredBeside, IsKeptBeside, IsSpeakingBeside}
pub use Rattle.run_laws.specs.UnendedLaws.CoveredPassages.{IsOutside}
pub use Rattle.run_laws.specs.UnendedLaws.Tended.{IsAtCheck, plan_of}
pub use Rattle.run_laws.specs.UnendedLaws.Turns.{RecoveryTurn}
pub use Rattle.run_laws.specs.UnendedLaws.Upkeep.{IsUpBeside, ReadsLast, UpSoFar}
