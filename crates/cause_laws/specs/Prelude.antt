-- What this crate's definitions and contracts cite of others.
pub use Rattle.job_laws.specs.Held.{attachment_of}
pub use Rattle.job_laws.specs.Leases.{HasLeases, IsLeased, Leases}
pub use Rattle.job_laws.specs.Prelude.{Deed, Job, Op, Position, Stops, Turned, by_deed, can_attach, change_of, deed_of, finished, list_any}
pub use Rattle.job_laws.specs.Prelude.{match_logs, seen_of, turned}
pub use Rattle.operations.specs.Commands.declared.cause.Cause.TheVariants as cause
pub use Rattle.operations.specs.Deeds as deed
pub use Rattle.operations.specs.Ending.{turns_left}
pub use Rattle.operations.specs.Prelude.{Apply, Attach, AttachAuto, Attached, AttachFault, Befall, Cause, Coord, Exchange, Fetch, Line, Moment}
pub use Rattle.operations.specs.Prelude.{Observation, Purge, Request, Rotate, ServerNo, SourceState, Spot, Status, World, Write, attach_at}
pub use Rattle.operations.specs.Prelude.{attach_auto, can_reach, holds, is_at_or_before, same_coord, seen_in, server_at, status}
pub use Rattle.operations.specs.ServerWords.declared.attach.AttachFault.TheVariants as attaching
pub use Rattle.operations.specs.ServerWords.declared.changes.Ask.TheVariants as asking
pub use Rattle.operations.specs.ServerWords.declared.changes.Threads.{Threads}
pub use Rattle.operations.specs.Turns.{aim_of, until_by}
pub use Rattle.operations.specs.declared.matching.MatchFault.{MatchFault}
pub use Rattle.operations.specs.declared.matching.MatchFault.TheVariants as matching
pub use Rattle.operations.specs.declared.step.JobStep.TheVariants as step
