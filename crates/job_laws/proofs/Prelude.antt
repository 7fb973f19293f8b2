-- What its proofs cite of others.
pub use Rattle.std.proofs.lemmas.Bool.{le-ltb, lt-ltb, not-true}
pub use Rattle.std.proofs.lemmas.List.{get_or-set_other, get_or-set_same, reverse-append}
pub use Rattle.std.proofs.lemmas.List.Elements.{All-cons, All-drop, All-filter, All-head, All-nil, All-push, All-replicate, All-set, All-tail}
pub use Rattle.std.proofs.lemmas.List.Elements.{All-weaker, filter_passes}
pub use Rattle.std.specs.List.{flat_map}
pub use Rattle.circular_buffer.specs.Buffer.{keep_last, last_item}
pub use Rattle.job_laws.specs.Flights.{Flight, Held, IsShown, IsShownBridged, Sound, StandsIn, after_turn, begun, forgotten, job_turned, leased_to}
pub use Rattle.job_laws.specs.Flights.{no_leases, opened_flight, replaced, restarted, slotted, stored, without_job, without_leases}
pub use Rattle.job_laws.specs.Footing.{Footing, SameBase, Within, are_held, finds, finds_aim, finds_crossing, footing, is_under, learn, logging}
pub use Rattle.job_laws.specs.Footing.{logs_at, looking, reading, source_shown}
pub use Rattle.job_laws.specs.Held.{AllShow, HeldJob, IsDue, IsPurged, IsTried, KeepsHeld, ShowsAt, Spans, attachment_of}
pub use Rattle.job_laws.specs.Leases.{AreLeased, Begins, HasLeases, IsLeased, KeepsLeases, Leases, MayChange, are_listed, is_in, job_at, leases_of}
pub use Rattle.job_laws.specs.Marked.{KeepsMark}
pub use Rattle.job_laws.specs.Matched.{AllMeet, ArePlaced, IsPlaced, Matched, Meets, MeetsAt, are_matched, finds_match, matched_by, matched_in}
pub use Rattle.job_laws.specs.Matched.{matching}
pub use Rattle.job_laws.specs.Passages.{AllMayPass, AllPassWell, MayPass, MayTake, Passage, PassesWell, TakesWell, passed, passing, slot_of}
pub use Rattle.job_laws.specs.Passages.{stored_if, turned_by}
pub use Rattle.job_laws.specs.Passages as pass
pub use Rattle.job_laws.specs.Prelude.{Aim, All, AllAllowed, AllJoinWell, Allowed, Attach, Attempt, Auto, Bridge, Coord, Cross, Crossing, CrossMatch}
pub use Rattle.job_laws.specs.Prelude.{Deed, Exchange, Goes, IsQuiet, IsTarget, Job, JoinsWell, Line, Match, Moment, Observation, Op, Placed}
pub use Rattle.job_laws.specs.Prelude.{Position, Safe, Same, Server, ServerNo, Settle, Shows, Sight, Spot, Stands, Status, Stops, Turned, Txn, World}
pub use Rattle.job_laws.specs.Prelude.{after, after_answer, again, asking, attach_answer_of, auto, bridge_at, bridge_in, by_deed, by_match, by_set}
pub use Rattle.job_laws.specs.Prelude.{can_attach, change_of, coord_after, crossing_of, deed_of, finished, given_back, going, is_going, is_mark}
pub use Rattle.job_laws.specs.Prelude.{is_settled, list_any, logged, logs_by, match_found, match_logs, next, observed, place, position_of, ringed}
pub use Rattle.job_laws.specs.Prelude.{run, same_again, same_txn, saw, seen_in, seen_of, server_at, server_of, settled, source_no, standing_at}
pub use Rattle.job_laws.specs.Prelude.{status, swap, taken, turned, under, up}
pub use Rattle.job_laws.specs.Sound.{AllBridged, IsBridged, KeepsSound}
pub use Rattle.operations.proofs.Allowing.{restarts-allowed, turn-allowed}
pub use Rattle.operations.proofs.Attempts.{Attempts, IsMove, IsWaitFor, StopsFor, attachment_in, attempts}
pub use Rattle.operations.proofs.Attempts as doing
pub use Rattle.operations.proofs.Changing.{turn-stays}
pub use Rattle.operations.proofs.KeptRows.Same.{eq_refl}
pub use Rattle.operations.proofs.Marks.{IsEntry, entry-is, first-none, is-entry, is-last, last-is, mark-there, match-behind, match-of-both}
pub use Rattle.operations.proofs.Marks.{none-first, same-there}
pub use Rattle.operations.proofs.Sights.{seen-at}
pub use Rattle.operations.proofs.Targets.{can-allowed, target-can}
pub use Rattle.operations.proofs.Tests.{both, cond-mono, or-at, or-mono, some-mono}
pub use Rattle.operations.specs.Commands.declared.cause.Cause.{Cause}
pub use Rattle.operations.specs.Commands.declared.cause.Cause.TheVariants as cause
pub use Rattle.operations.specs.Deeds as deed
pub use Rattle.operations.specs.InstanceKeeper.Bridges.{bridge_by, is_same, ring_at, ring_size, with_bridge}
pub use Rattle.operations.specs.InstanceKeeper.Leases.{is_of}
pub use Rattle.operations.specs.Jobs.{is_match_of, with_seen}
pub use Rattle.operations.specs.Matching.{alike, first_unlike, is_mark_there, is_same_there, last_mark, match_between, match_of, matched_at}
pub use Rattle.operations.specs.Matching.{matched_behind, matched_from, place_of_mark, shows_same, standing}
pub use Rattle.operations.specs.ServerWords.declared.attach.AttachFault.TheVariants as attaching
pub use Rattle.operations.specs.ServerWords.declared.attach.Spot.TheVariants as spot
pub use Rattle.operations.specs.ServerWords.declared.changes.Ask.TheVariants as ask
pub use Rattle.operations.specs.ServerWords.declared.status.StatusFault.{StatusFault}
pub use Rattle.operations.specs.Turns.{after_attach, after_wait, after_wait_by, attached_anew, by_ops, cause_by, cause_of_match, crossed, failed}
pub use Rattle.operations.specs.Turns.{hands_after, is_moved, read_by, restarts, settles, with_match}
pub use Rattle.operations.specs.declared.matching.MatchFault.{MatchFault}
pub use Rattle.operations.specs.declared.matching.MatchFault.TheVariants as fault
pub use Rattle.operations.specs.declared.op.Aim.TheVariants as aim
pub use Rattle.operations.specs.declared.op.Crossing.TheVariants as cross
pub use Rattle.operations.specs.declared.op.Op.TheVariants.{Finish}
pub use Rattle.operations.specs.declared.op.Op.TheVariants as op
pub use Rattle.replication_laws.proofs.BridgeLaws.{Stands-grows, Stands-seen, joins-about, joins-back, joins-down, joins-up}
pub use Rattle.replication_laws.proofs.Changes.{Becomes, Leaves, leaves}
pub use Rattle.replication_laws.proofs.Changes as changes
pub use Rattle.replication_laws.proofs.Crossings.{joins-same}
pub use Rattle.replication_laws.proofs.Histories.{IsKin-once}
pub use Rattle.replication_laws.proofs.Logs.{LaysOut-Grown, LaysOut-length}
pub use Rattle.replication_laws.proofs.Prelude.{Ask, AttachAuto, Attached, AttachFault, Detached, Grows, IsKin, Laid-Grown, Request, Settings}
pub use Rattle.replication_laws.proofs.Prelude.{SourceState, Unreachable, Without, and_parts, can_reach, cases_eq, count_own, end_of, ends_by, eq-eqb}
pub use Rattle.replication_laws.proofs.Prelude.{eqb-true, false≢true, histories, history_of, length-set, length-take, length-take-le, logged_by}
pub use Rattle.replication_laws.proofs.Prelude.{logged_in, nat_tests, ne_eqb, or_right, or_right as or-right, own_txn, place-coord_after, place-from}
pub use Rattle.replication_laws.proofs.Prelude.{place-of_end, place-parts, same_Some, slice_get_within, take-length, took}
pub use Rattle.replication_laws.proofs.Runs.{Grows-run, Placed-run, Safe-run, quiet-run}
pub use Rattle.replication_laws.proofs.SeenSets.{joins-auto}
pub use Rattle.replication_laws.proofs.ShownCoords.{Position-run, Shows-run, Shows-seen}
pub use Rattle.replication_laws.proofs.Worlds.{at_with_other}
