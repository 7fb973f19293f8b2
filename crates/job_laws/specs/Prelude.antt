-- What this crate's definitions and contracts cite of others.
pub use Rattle.std.specs.List.{All, list_any}
pub use Rattle.operations.specs.Changes.{change_of, server_of}
pub use Rattle.operations.specs.Commands.declared.cause.Cause.TheVariants as cause
pub use Rattle.operations.specs.Deeds.{Auto, Cross, CrossMatch, Deed, Same, Settle, deed_of}
pub use Rattle.operations.specs.Deeds as deed
pub use Rattle.operations.specs.InstanceKeeper.Bridges.{bridge_in, ringed}
pub use Rattle.operations.specs.InstanceKeeper.Leases.{freed, given_back, taken}
pub use Rattle.operations.specs.Jobs.{Job, match_found, position_of, seen_of}
pub use Rattle.operations.specs.Matching.{is_mark, match_logs, standing_at}
pub use Rattle.operations.specs.Plans.{again, asking, auto, finished, swap, under, up}
pub use Rattle.operations.specs.Prelude.{AllAllowed, Attach, Bridge, Coord, Exchange, Line, Moment, Observation, Server, ServerNo, Spot, Status, Txn}
pub use Rattle.operations.specs.Prelude.{World, coord_after, same_txn, seen_in, server_at, status}
pub use Rattle.operations.specs.ServerModel.Bridges.{Stands}
pub use Rattle.operations.specs.ServerModel.Showing.{IsPosition, Shows}
pub use Rattle.operations.specs.ServerWords.declared.attach.AttachFault.TheVariants as attaching
pub use Rattle.operations.specs.ServerWords.declared.attach.Spot.TheVariants as spot
pub use Rattle.operations.specs.Targets.{can_attach, logs_by}
pub use Rattle.operations.specs.Turns.{Attempt, Goes, Stops, Turned, after_answer, attach_answer_of, bridge_at, by_deed, by_match, by_set}
pub use Rattle.operations.specs.Turns.{crossing_of, going, is_going, is_settled, next, observed, same_again, saw, settled, turned}
pub use Rattle.operations.specs.declared.matching.Match.{Match}
pub use Rattle.operations.specs.declared.op.Aim.{Aim}
pub use Rattle.operations.specs.declared.op.Aim.TheVariants as aim
pub use Rattle.operations.specs.declared.op.Crossing.{Crossing}
pub use Rattle.operations.specs.declared.op.Crossing.TheVariants as cross
pub use Rattle.operations.specs.declared.op.Op.{Op}
pub use Rattle.operations.specs.declared.sight.Position.{Position}
pub use Rattle.operations.specs.declared.sight.Sight.{Sight}
pub use Rattle.replication_laws.specs.Prelude.{AllJoinWell, Allowed, IsQuiet, IsTarget, JoinsWell, Placed, Safe, after, logged, place, run, source_no}
