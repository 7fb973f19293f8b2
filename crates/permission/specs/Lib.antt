pub mod Prelude
pub mod Lists
pub mod Views
pub mod Errants
pub mod Checks
pub mod Replicas
pub mod Rows
pub mod Candidates
pub use Rattle.operations.specs.BinlogCoords as BinlogCoords
pub mod BookViews
pub use Rattle.operations.specs.Commands as Commands
pub use Rattle.operations.specs.GtidSets as GtidSets
pub use Rattle.operations.specs.InstanceKeeper as InstanceKeeper
pub use Rattle.operations.specs.KeptRows as KeptRows
pub use Rattle.operations.specs.NameOrder as NameOrder
pub mod Operations
pub use Rattle.operations.specs.OrchBase as OrchBase
pub use Rattle.operations.specs.ServerModel as ServerModel
pub use Rattle.operations.specs.ServerWords as ServerWords
pub mod TopologyTree
