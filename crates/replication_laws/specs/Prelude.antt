-- What this crate's definitions and contracts cite of others.
pub use Rattle.server_model.specs.Attach.{IsTarget, attach_at, chain_meets, live_spot, same_spot}
pub use Rattle.server_model.specs.Desk.{ask, befall, can_reach, rotate}
pub use Rattle.server_model.specs.Exchanges.{apply, apply_step, fetch, write}
pub use Rattle.server_model.specs.Gtids.{IsAutoTarget, attach_auto, errant_set, has_gtid, held_of, shown, status, uuids}
pub use Rattle.server_model.specs.Plains.{logged}
pub use Rattle.server_model.specs.Prelude.{ApplyAnswer, Ask, Attached, Coord, Event, FetchAnswer, Interval, PurgeAnswer, RotateAnswer, ServerNo, Spot}
pub use Rattle.server_model.specs.Prelude.{Status, Txn, WriteAnswer, file_start, holds, place, same_txn}
pub use Rattle.server_model.specs.Purging.{purge}
pub use Rattle.server_model.specs.Run.{AllAllowed, AllJoinWell, Allowed, Apply, Attach, AttachAuto, Befall, Exchange, Fetch, JoinsWell, Purge}
pub use Rattle.server_model.specs.Run.{Request, Rotate, Write, after, is_rotate, is_write, run}
pub use Rattle.server_model.specs.Safe.{IsQuiet, Placed, Safe}
pub use Rattle.server_model.specs.Worlds.{World, histories, server_at, source_no, sources, with_server}
pub use Rattle.server_model.specs.declared.decisions.ApplyStep.TheVariants as steps
pub use Rattle.server_model.specs.declared.server.Server.{Server}
pub use Rattle.server_words.specs.BinlogCoords.declared.Entry.{Entry}
pub use Rattle.server_words.specs.declared.answers.ApplyAnswer.TheVariants as applied_as
pub use Rattle.server_words.specs.declared.answers.FetchAnswer.TheVariants as fetching
pub use Rattle.server_words.specs.declared.answers.PurgeAnswer.TheVariants as purging
pub use Rattle.server_words.specs.declared.answers.RotateAnswer.TheVariants as rotating
pub use Rattle.server_words.specs.declared.answers.WriteAnswer.TheVariants as wrote
pub use Rattle.server_words.specs.declared.attach.AttachFault.TheVariants as attaching
pub use Rattle.server_words.specs.declared.attach.Spot.TheVariants as spot
