-- What its proofs cite of others.
pub use Rattle.std.proofs.lemmas.Bool.{le-leb, le-ltb, leb-true, ltb-false, ltb-true, or_left}
pub use Rattle.std.proofs.lemmas.List.Elements.{All-cons, All-filter, All-map}
pub use Rattle.std.specs.List.{All}
pub use Rattle.commands.specs.declared.cause.Cause.TheVariants as cause
pub use Rattle.instance_keeper.specs.ServerWords.declared.changes.Ask.TheVariants as asking
pub use Rattle.operations.specs.Changes.{change_of, server_of}
pub use Rattle.operations.specs.Deeds.{Deed, deed_of}
pub use Rattle.operations.specs.Deeds as deed
pub use Rattle.operations.specs.Ending.{MovesOn, turns_for}
pub use Rattle.operations.specs.Jobs.{Job, match_found, others, seen_of, with_seen, without}
pub use Rattle.operations.specs.Matching.{first_not, first_unlike, is_mark, is_mark_there, is_same_there, last_below, last_mark, match_between}
pub use Rattle.operations.specs.Matching.{match_logs, match_of, matched_at, matched_behind, matched_from, place_of_mark, standing_at}
pub use Rattle.operations.specs.Named.{IsInRange, IsNamed, are_named, is_named}
pub use Rattle.operations.specs.Prelude.{AllAllowed, Ask, Attach, AttachAuto, Attached, AttachFault, Bridge, Cause, Coord, Detached, Exchange}
pub use Rattle.operations.specs.Prelude.{Interval, Line, Moment, Observation, Request, Server, ServerNo, SourceState, Spot, Status, Txn, Unreachable}
pub use Rattle.operations.specs.Prelude.{Without, World, can_reach, desk_answer, has_place, holds, logged_by, same_txn, seen_in, server_at, status}
pub use Rattle.operations.specs.Targets.{can_attach, logs_by, places_by}
pub use Rattle.operations.specs.Turns.{Attempt, Ends, Goes, Stops, Turned, after_answer, after_ask, after_attach, after_look, after_match}
pub use Rattle.operations.specs.Turns.{after_status, after_until, after_wait, after_wait_by, aim_of, attach_answer_of, attached_anew, bridge_at}
pub use Rattle.operations.specs.Turns.{by_deed, by_match, by_ops, by_set, cause_by, cause_of_match, crossed, crossing_of, failed, going, hands_after}
pub use Rattle.operations.specs.Turns.{has_all, has_from, holds_seen, is_moved, is_reached, is_within, next, observed, read_by, restarts, same_again}
pub use Rattle.operations.specs.Turns.{saw, settled, settles, turned, until_by}
pub use Rattle.operations.specs.declared.matching.Match.{Match}
pub use Rattle.operations.specs.declared.matching.MatchFault.{MatchFault}
pub use Rattle.operations.specs.declared.matching.MatchFault.TheVariants as fault
pub use Rattle.operations.specs.declared.op.Aim.{Aim}
pub use Rattle.operations.specs.declared.op.Crossing.{Crossing}
pub use Rattle.operations.specs.declared.op.Crossing.TheVariants as cross
pub use Rattle.operations.specs.declared.op.Op.{Op}
pub use Rattle.operations.specs.declared.sight.Position.{Position}
pub use Rattle.operations.specs.declared.sight.Sight.{Sight}
pub use Rattle.server_model.proofs.Prelude.{All-head, All-nil, All-push, All-tail, Allowed, IsAutoTarget, IsTarget, after, and_parts, cases_eq}
pub use Rattle.server_model.proofs.Prelude.{eq-eqb, eqb-true, false≢true, ne_eqb, purged_len, same_Some, spans}
