pub mod Prelude
pub mod Entries
pub mod Grouping
pub mod Trying
pub mod Steps
pub mod Beginning
pub mod InTurn
pub mod Ended
pub mod AuditLog
pub use Rattle.permission.proofs.BinlogCoords as BinlogCoords
pub use Rattle.permission.proofs.BookViews as BookViews
pub use Rattle.permission.proofs.CommandsProofs as CommandsProofs
pub mod FailureAnalysis
pub use Rattle.permission.proofs.InstanceKeeper as InstanceKeeper
pub use Rattle.permission.proofs.KeptRows as KeptRows
pub use Rattle.permission.proofs.NameOrder as NameOrder
pub use Rattle.permission.proofs.OperationsProofs as OperationsProofs
pub mod PermissionProofs
pub mod RecoveryPlans
pub use Rattle.permission.proofs.ServerModel as ServerModel
pub use Rattle.permission.proofs.TopologyTree as TopologyTree
