-- What this crate's definitions and contracts cite of others.
pub use Rattle.run_laws.specs.BinlogCoords.Index.{Index}
pub use Rattle.run_laws.specs.JobLaws.Leases.{job_at}
pub use Rattle.run_laws.specs.JobLaws.Passages.{passed}
pub use Rattle.run_laws.specs.JobLaws.Passages as pass
pub use Rattle.run_laws.specs.Operations.Deeds as deed
pub use Rattle.run_laws.specs.Operations.Jobs.{position_of, seen_of}
pub use Rattle.run_laws.specs.Operations.Turns.{Attempt, Ends, Goes, Stops, Turned, is_going, turned}
pub use Rattle.run_laws.specs.Operations.declared.sight.Sight.{Sight}
pub use Rattle.run_laws.specs.Prelude.{Ask, Bridge, Coord, Deed, Exchange, Flight, IsQuiet, IsScenario, Job, Observation, Op, Passage, Placed}
pub use Rattle.run_laws.specs.Prelude.{Position, Scenario, Server, ServerNo, Spot, Status, Taken, Unended, World, after, deed_of, live_spot}
pub use Rattle.run_laws.specs.Prelude.{same_spot, server_at}
pub use Rattle.run_laws.specs.RecoveryPlans.Recoveries.{Recovery}
pub use Rattle.run_laws.specs.RecoveryPlans.Table.{info}
pub use Rattle.run_laws.specs.RecoveryPlans.declared.outcome.Stopped.{Stopped}
pub use Rattle.run_laws.specs.RecoveryPlans.declared.stage.Stage.{Stage}
pub use Rattle.run_laws.specs.RecoveryPlans.declared.task.Task.{Task}
pub use Rattle.run_laws.specs.RecoveryPlans.declared.task.Task.TheVariants as task
pub use Rattle.run_laws.specs.RecoveryPlans.declared.task.Way.{Way}
pub use Rattle.run_laws.specs.RecoveryPlans.declared.task.Way.TheVariants as way
pub use Rattle.run_laws.specs.Runs.{InEveryStateOf}
pub use Rattle.run_laws.specs.ServerModel.Kept.{Kept}
pub use Rattle.run_laws.specs.ServerModel.Run.{AllAllowed, Allowed, Apply, Attach, AttachAuto, Befall, Fetch, Purge, Request, Rotate, Write}
pub use Rattle.run_laws.specs.ServerWords.declared.changes.Ask.TheVariants as asking
pub use Rattle.run_laws.specs.UnendedJobs.declared.unended.Unended.TheVariants as unended
pub use Rattle.run_laws.specs.WorldOpenings.Opening.{opened_world}
pub use Rattle.scenario_dump.specs.Prelude.{HasSize, Settings, SourceState, Without, file_start, opened, source_no}
pub use Rattle.scenario_dump.specs.Reading.{IsWithinLimits, IsWorldOf}
unfoldable pub use Rattle.scenario_dump.specs.Reading.{dumped_scenario, refitted}
unfoldable pub use Rattle.scenario_dump.specs.Texts.{dump_text}
pub use Rattle.scenario_dump.specs.Tidy.{IsWritten}
unfoldable pub use Rattle.scenario_dump.specs.Tidy.{IsTidy}
unfoldable pub use Rattle.scenario_reader.specs.ReadScenarios.{scenario_in}
