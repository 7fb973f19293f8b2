pub mod Prelude
pub mod Aliases
pub mod AliasTable
pub mod Filters
pub mod ReadOpenings
pub mod Blocks
pub mod Hooks
pub mod ReadScenarios
pub use Rattle.scenarios.specs.BinlogCoords as BinlogCoords
pub mod ClusterFilters
pub use Rattle.scenarios.specs.Openings as Openings
pub use Rattle.scenarios.specs.OrchBase as OrchBase
pub mod ScenarioServers
pub mod ScenarioTurns
pub mod ScenarioValues
pub mod Scenarios
pub use Rattle.scenarios.specs.Turns as Turns
