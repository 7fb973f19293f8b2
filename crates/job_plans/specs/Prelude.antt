-- What this crate's definitions and contracts cite of others.
pub use Rattle.std.specs.List.{All}
pub use Rattle.std.specs.Option.{option_copied, option_to_list}
pub use Rattle.operations.specs.Deeds.{deed_of}
pub use Rattle.operations.specs.Ending.{turns_left}
pub use Rattle.operations.specs.Jobs.{Job, job_with, match_found, position_of, seen_of, with_seen, without}
pub use Rattle.operations.specs.Matching.{alike, first_not, first_unlike, is_mark, last_mark, match_logs, matched_at, place_of_mark, shows_same}
pub use Rattle.operations.specs.Matching.{standing_at}
pub use Rattle.operations.specs.Named.{IsNamed, IsOneOf, is_named}
pub use Rattle.operations.specs.Prelude.{Attach, Exchange, Observation, Request, Server, ServerNo, World, can_reach, coord_after, desk_answer}
pub use Rattle.operations.specs.Prelude.{logged_by, same_txn, seen_in, server_at, status}
pub use Rattle.operations.specs.ServerModel.Attach.{IsTarget}
pub use Rattle.operations.specs.ServerModel.Gtids.{IsAutoTarget, purged_len}
pub use Rattle.operations.specs.ServerModel.Run.{after, run}
pub use Rattle.operations.specs.Targets.{logs_by, places_by}
pub use Rattle.operations.specs.Turns.{Attempt, Turned, after_ask, after_attach, after_look, after_match, after_until, after_wait, after_wait_by}
pub use Rattle.operations.specs.Turns.{aim_of, bridge_at, by_deed, by_match, by_set, cause_by, cause_of_match, crossed, crossing_of, ended}
pub use Rattle.operations.specs.Turns.{hands_after, holds_seen, is_moved, is_reached, is_settled, next, observed, read_by, restarts, same_again}
pub use Rattle.operations.specs.Turns.{saw_at, settled, settles, turned, until_by, with_match}
pub use Rattle.operations.specs.declared.op.Op.{Op}
pub use Rattle.operations.specs.declared.sight.Position.{Position}
pub use Rattle.operations.specs.declared.sight.Sight.{Sight}
pub use Rattle.operations.specs.declared.step.JobStep.{JobStep}
pub use Rattle.operations.specs.declared.step.JobStep.TheVariants as step
