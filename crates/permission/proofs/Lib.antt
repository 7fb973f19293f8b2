pub mod Prelude
pub mod Missing
pub mod Below
pub mod Within
pub mod Free
pub mod Rows
pub use Rattle.operations.proofs.BinlogCoords as BinlogCoords
pub mod BookViews
pub use Rattle.operations.proofs.CommandsProofs as CommandsProofs
pub use Rattle.operations.proofs.InstanceKeeper as InstanceKeeper
pub use Rattle.operations.proofs.KeptRows as KeptRows
pub use Rattle.operations.proofs.NameOrder as NameOrder
pub mod OperationsProofs
pub use Rattle.operations.proofs.ServerModel as ServerModel
pub mod TopologyTree
