-- What this crate's definitions and contracts cite of others.
pub use Rattle.job_laws.specs.Flights.{Flight, Held, Sound, StandsIn}
pub use Rattle.job_laws.specs.Footing.{logs_at, source_shown}
pub use Rattle.job_laws.specs.Held.{HeldJob, Spans}
pub use Rattle.job_laws.specs.Leases.{HasLeases, IsLeased, Leases}
pub use Rattle.job_laws.specs.Matched.{AllMeet}
pub use Rattle.job_laws.specs.Passages.{Beginning, Discovering, Exchanging, Forgetting, MayPass, MayTake, Passage, Polling, Restarting, Storing}
pub use Rattle.job_laws.specs.Passages.{TakesWell, Taking, Turning, passed}
pub use Rattle.job_laws.specs.Prelude.{AllAllowed, AllJoinWell, Bridge, Coord, Exchange, Job, Match, Moment, Placed, Safe, Server, ServerNo, Sight}
pub use Rattle.job_laws.specs.Prelude.{Status, Turned, World, bridge_in, is_going, ringed, run, seen_of, server_at}
pub use Rattle.job_laws.specs.Sound.{AllBridged}
pub use Rattle.recovery_ends.specs.Shapes.{Fits}
pub use Rattle.recovery_plans.specs.Beginning.{begun_recovery, first_source}
pub use Rattle.recovery_plans.specs.Deciding.{decided, ground_of}
pub use Rattle.recovery_plans.specs.Named.{IsListOf, IsOf, KeepsOf}
pub use Rattle.recovery_plans.specs.Prelude.{BookState, job_with, ring_at}
pub use Rattle.recovery_plans.specs.Recoveries.{Recovery}
pub use Rattle.recovery_plans.specs.Table.{info}
pub use Rattle.recovery_plans.specs.Taking.{Taken, taken}
pub use Rattle.recovery_plans.specs.declared.means.Means.{Means}
pub use Rattle.recovery_plans.specs.declared.outcome.Stopped.{Stopped}
pub use Rattle.recovery_plans.specs.declared.purpose.Purpose.{Purpose}
pub use Rattle.recovery_plans.specs.declared.stage.Stage.{Stage}
pub use Rattle.recovery_plans.specs.declared.task.Task.{Task}
pub use Rattle.recovery_plans.specs.declared.task.Task.TheVariants as task
pub use Rattle.recovery_plans.specs.declared.task.Way.{Way}
pub use Rattle.recovery_plans.specs.declared.task.Way.TheVariants as way
