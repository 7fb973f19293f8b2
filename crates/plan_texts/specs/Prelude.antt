-- What this crate's definitions and contracts cite of others.
pub use Rattle.std.specs.List.{list_any}
pub use Rattle.std.specs.Option.{option_or}
pub use Rattle.operations.specs.OrchBase.Names.{HostPort, printed_at}
pub use Rattle.operations.specs.OrchBase.declared.server.ServerNo.{ServerNo}
pub use Rattle.operations.specs.Plans.{auto, up}
pub use Rattle.operations.specs.declared.op.Aim.{Aim}
pub use Rattle.operations.specs.declared.op.Aim.TheVariants.{EndOf, ExecOf}
pub use Rattle.operations.specs.declared.op.Crossing.{Crossing}
pub use Rattle.operations.specs.declared.op.Crossing.TheVariants.{About, Back, Down, Up}
pub use Rattle.operations.specs.declared.op.Crossing.TheVariants as cross
pub use Rattle.operations.specs.declared.op.Op.{Op}
pub use Rattle.operations.specs.declared.op.Op.TheVariants.{Cross, CrossMatch, Detach, Finish, Match, Reattach, Same, Settle, Status, StopReceiver}
pub use Rattle.operations.specs.declared.op.Op.TheVariants as op
