pub mod Prelude
pub mod Ends
pub mod Faults
pub mod Reads
pub mod Report
pub mod Runs
pub mod Promises
pub mod CommandLine
pub use Rattle.recovery_runs.specs.Commands as Commands
pub use Rattle.recovery_runs.specs.KeptRows as KeptRows
pub use Rattle.recovery_runs.specs.NodeClaims as NodeClaims
pub use Rattle.recovery_runs.specs.OpeningBook as OpeningBook
pub use Rattle.recovery_runs.specs.OrchBase as OrchBase
pub use Rattle.recovery_runs.specs.OrchCore as OrchCore
pub use Rattle.recovery_runs.specs.RunLaws as RunLaws
pub use Rattle.tasks.specs.ScenarioDump as ScenarioDump
pub use Rattle.scenario_reader.specs.ScenarioValues as ScenarioValues
pub use Rattle.recovery_runs.specs.Scenarios as Scenarios
pub use Rattle.recovery_runs.specs.ServerModel as ServerModel
pub mod Tasks
pub use Rattle.recovery_runs.specs.Turns as Turns
pub use Rattle.recovery_runs.specs.UnendedJobs as UnendedJobs
pub use Rattle.recovery_runs.specs.WorldOpenings as WorldOpenings
