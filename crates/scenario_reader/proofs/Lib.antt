pub mod Prelude
pub mod AliasTables
pub mod PatternLemmas
pub mod Limits
pub mod Members
pub mod Parts
pub mod Sound
pub use Rattle.scenarios.proofs.BinlogCoords as BinlogCoords
pub mod OpeningChecks
pub use Rattle.scenarios.proofs.OpeningsProofs as OpeningsProofs
pub use Rattle.scenarios.proofs.OrchBase as OrchBase
pub mod ScenarioServers
pub mod ScenarioValues
