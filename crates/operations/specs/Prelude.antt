-- What this crate's definitions and contracts cite of others.
pub use Rattle.std.specs.List.{list_all}
pub use Rattle.std.specs.Option.{option_and_then, option_map}
pub use Rattle.commands.specs.declared.cause.Cause.{Cause}
pub use Rattle.commands.specs.declared.cause.Cause.TheVariants as cause
pub use Rattle.commands.specs.declared.line.Line.{Line}
pub use Rattle.instance_keeper.specs.Bridges.{bridge_by}
pub use Rattle.instance_keeper.specs.KeptRows.Seeing.{seen_in}
pub use Rattle.instance_keeper.specs.KeptRows.declared.observation.Observation.{Observation}
pub use Rattle.instance_keeper.specs.OrchBase.declared.server.Moment.{Moment}
pub use Rattle.instance_keeper.specs.ServerWords.declared.attach.AttachFault.TheVariants as attaching
pub use Rattle.instance_keeper.specs.ServerWords.declared.attach.Spot.TheVariants as spot
pub use Rattle.instance_keeper.specs.ServerWords.declared.changes.Ask.TheVariants as asking
pub use Rattle.instance_keeper.specs.ServerWords.declared.changes.Threads.TheVariants as threads
pub use Rattle.instance_keeper.specs.declared.bridge.Bridge.{Bridge}
pub use Rattle.server_model.specs.Attach.{attach_at}
pub use Rattle.server_model.specs.Desk.{can_reach, desk_answer}
pub use Rattle.server_model.specs.Gtids.{attach_auto, status}
pub use Rattle.server_model.specs.Plains.{logged_by}
pub use Rattle.server_model.specs.Prelude.{Ask, Attached, AttachFault, Coord, Detached, Interval, ServerNo, SourceState, Spot, Status, Txn}
pub use Rattle.server_model.specs.Prelude.{Unreachable, Without, coord_after, end_of, has_place, holds, is_at_or_before, same_coord, same_txn}
pub use Rattle.server_model.specs.Run.{AllAllowed, Apply, Attach, AttachAuto, Befall, Exchange, Fetch, Purge, Request, Rotate, Write}
pub use Rattle.server_model.specs.Worlds.{World, server_at}
pub use Rattle.server_model.specs.declared.server.Server.{Server}
