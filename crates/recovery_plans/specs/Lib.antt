pub mod Prelude
pub mod Whys
pub mod Recoveries
pub mod Standings
pub mod Table
pub mod Stages
pub mod Telling
pub mod Deciding
pub mod Taking
pub mod Beginning
pub mod Named
pub mod Moves
pub use Rattle.operations.specs.BinlogCoords as BinlogCoords
pub use Rattle.operations.specs.Commands as Commands
pub use Rattle.operations.specs.GtidSets as GtidSets
pub use Rattle.operations.specs.InstanceKeeper as InstanceKeeper
pub use Rattle.operations.specs.KeptRows as KeptRows
pub mod Operations
pub use Rattle.operations.specs.OrchBase as OrchBase
pub mod PromotionRules
pub use Rattle.operations.specs.ServerModel as ServerModel
pub use Rattle.operations.specs.ServerWords as ServerWords
