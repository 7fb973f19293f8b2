-- What its proofs cite of others.
pub use Rattle.std.proofs.lemmas.Bool.{and_cases, cases_Bool, false_from_ne_true, le-leb, ltb-false, ltb-true, not-false, not_from_false}
pub use Rattle.std.proofs.lemmas.Bool.{not_from_true, or_cases, or_left, or_parts}
pub use Rattle.std.proofs.lemmas.List.Kept.{AllPairs-filter}
pub use Rattle.std.proofs.lemmas.List.Quantifiers.{all_pairs_push}
pub use Rattle.std.proofs.lemmas.List.Sums.{fold-append}
pub use Rattle.cause_laws.specs.Courses.{AllFree, AllGoing, AllWait, AreSpent, IsDoneIn, IsWait, Meeting, exchanges_in, is_finish, job_after}
pub use Rattle.cause_laws.specs.Courses.{lines_by, lines_of, turn_at}
pub use Rattle.cause_laws.specs.Events.{Answers, Befell, Done, Ended, IsAnswered, IsBefore, IsMoved, IsShort, IsSpent, IsTaken, IsUnmatched, IsWaited}
pub use Rattle.cause_laws.specs.Events.{LacksSome, Misses, Stopped, Waited, asked_until, changes_by, fails_when_spent, first_away, made, only_where}
pub use Rattle.cause_laws.specs.Events.{speaks_with, tries}
pub use Rattle.cause_laws.specs.Hands.{IsLeftStopped, IsNoStart, is_in_hands}
pub use Rattle.job_laws.proofs.Leased.{turn-leased}
pub use Rattle.job_laws.proofs.Prelude.{All-cons, All-head, All-nil, All-tail, Ask, Attach, AttachAuto, Attached, AttachFault, Attempt, Attempts}
pub use Rattle.job_laws.proofs.Prelude.{Cause, Coord, Deed, Detached, Exchange, Goes, HasLeases, IsLeased, IsMove, IsWaitFor, Job, KeepsLeases}
pub use Rattle.job_laws.proofs.Prelude.{Leases, Line, MatchFault, MayChange, Moment, Observation, Op, Position, Request, Server, ServerNo}
pub use Rattle.job_laws.proofs.Prelude.{SourceState, Spot, Status, Stops, StopsFor, Turned, Unreachable, Without, World, after_answer, after_attach}
pub use Rattle.job_laws.proofs.Prelude.{after_wait, after_wait_by, and_parts, attach_answer_of, attachment_in, attachment_of, attempts}
pub use Rattle.job_laws.proofs.Prelude.{both as and_from, bridge_at, by_deed, by_ops, can_attach, can_reach, cause_by, cause_of_match, change_of}
pub use Rattle.job_laws.proofs.Prelude.{deed_of, eq-eqb, eqb-true, false≢true, filter_passes, finished, first_unlike, hands_after, is_going, is_moved}
pub use Rattle.job_laws.proofs.Prelude.{is_settled, last_mark, le-ltb, list_any, logged_by, match_between, match_found, match_logs, matched_at}
pub use Rattle.job_laws.proofs.Prelude.{matched_behind, matched_from, next, not-true, observed, or_right, place_of_mark, read_by, same_Some, saw}
pub use Rattle.job_laws.proofs.Prelude.{seen_in, seen_of, server_at, server_of, settled, settles, standing_at, status, turned}
pub use Rattle.job_laws.proofs.Stopped.{attachment-is, move-changes}
pub use Rattle.operations.proofs.Attempts.{IsAttachment, attached-server, crossed-of, is_over, match-of, same-of, set-of}
pub use Rattle.operations.proofs.Attempts as doing
pub use Rattle.operations.proofs.Ending.{turn-moves}
pub use Rattle.operations.proofs.Sets.{within-holds}
pub use Rattle.operations.specs.Commands.declared.cause.Cause.TheVariants as cause
pub use Rattle.operations.specs.Deeds as deed
pub use Rattle.operations.specs.Ending.{MovesOn, turns_left}
pub use Rattle.operations.specs.GtidSets.Sets.{spans}
pub use Rattle.operations.specs.Jobs.{with_hand, without}
pub use Rattle.operations.specs.Prelude.{Interval, Write, desk_answer, holds, same_coord}
pub use Rattle.operations.specs.ServerModel.Attach.{attach_answer, attach_decision, chain_meets, first_kept, live_spot, purged_answer, same_spot}
pub use Rattle.operations.specs.ServerModel.Attach.{spot_below}
pub use Rattle.operations.specs.ServerModel.Gtids.{answer_by_sets, attach_auto_answer, auto_decision, auto_purged, auto_readiness, errant_answer}
pub use Rattle.operations.specs.ServerModel.Gtids.{errant_set, held_of, purged_len, shown_of, status_in, uuids}
pub use Rattle.operations.specs.ServerModel.Worlds.{sources}
pub use Rattle.operations.specs.ServerWords.declared.attach.AttachFault.TheVariants as attaching
pub use Rattle.operations.specs.ServerWords.declared.changes.Ask.TheVariants as asking
pub use Rattle.operations.specs.ServerWords.declared.changes.Threads.{Threads}
pub use Rattle.operations.specs.ServerWords.declared.status.StatusFault.TheVariants as seeing
pub use Rattle.operations.specs.Turns.{after_ask, after_look, after_match, after_status, after_until, aim_of, has_all, has_from, holds_seen}
pub use Rattle.operations.specs.Turns.{is_reached, is_within, until_by}
pub use Rattle.operations.specs.declared.matching.MatchFault.TheVariants as matching
pub use Rattle.operations.specs.declared.step.JobStep.TheVariants as step
