pub mod Prelude
pub mod Deeds
pub mod Jobs
pub mod Matching
pub mod Plans
pub mod Targets
pub mod Turns
pub mod Changes
pub mod Ending
pub mod Named
pub use Rattle.instance_keeper.specs.BinlogCoords as BinlogCoords
pub mod Commands
pub use Rattle.instance_keeper.specs.GtidSets as GtidSets
pub mod InstanceKeeper
pub use Rattle.instance_keeper.specs.KeptRows as KeptRows
pub use Rattle.instance_keeper.specs.NameOrder as NameOrder
pub use Rattle.instance_keeper.specs.OrchBase as OrchBase
pub mod ServerModel
pub use Rattle.instance_keeper.specs.ServerWords as ServerWords
