pub mod Prelude
pub mod Checks
pub mod Recoveries
pub mod Takeovers
pub mod Tries
pub mod Groups
pub mod Scans
pub mod Begun
pub mod Endings
pub mod Asks
pub mod AuditLog
pub use Rattle.permission.specs.BinlogCoords as BinlogCoords
pub use Rattle.permission.specs.BookViews as BookViews
pub use Rattle.permission.specs.Commands as Commands
pub mod FailureAnalysis
pub use Rattle.permission.specs.GtidSets as GtidSets
pub use Rattle.permission.specs.InstanceKeeper as InstanceKeeper
pub use Rattle.permission.specs.KeptRows as KeptRows
pub use Rattle.permission.specs.NameOrder as NameOrder
pub use Rattle.permission.specs.Operations as Operations
pub use Rattle.permission.specs.OrchBase as OrchBase
pub mod Permission
pub use Rattle.recovery_plans.specs.PromotionRules as PromotionRules
pub mod RecoveryPlans
pub use Rattle.permission.specs.ServerModel as ServerModel
pub use Rattle.permission.specs.ServerWords as ServerWords
pub use Rattle.permission.specs.TopologyTree as TopologyTree
