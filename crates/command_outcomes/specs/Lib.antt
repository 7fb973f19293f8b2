pub mod Prelude
pub mod Jobs
pub mod Readings
pub mod Beginnings
pub mod BeginningsBy
pub mod HookTelling
pub mod Periods
pub mod Ids
pub mod Outcomes
pub mod CommandsBy
pub mod AskingCommands
pub use Rattle.recovery_core.specs.AuditLog as AuditLog
pub use Rattle.recovery_core.specs.BinlogCoords as BinlogCoords
pub mod BookCommands
pub use Rattle.recovery_core.specs.BookViews as BookViews
pub use Rattle.recovery_core.specs.Commands as Commands
pub use Rattle.recovery_core.specs.FailureAnalysis as FailureAnalysis
pub use Rattle.unended_jobs.specs.HookTexts as HookTexts
pub use Rattle.recovery_core.specs.InstanceKeeper as InstanceKeeper
pub use Rattle.recovery_core.specs.KeptRows as KeptRows
pub mod MovesCoords
pub mod MovesGtid
pub use Rattle.recovery_core.specs.NameOrder as NameOrder
pub use Rattle.scenarios.specs.Openings as Openings
pub use Rattle.recovery_core.specs.Operations as Operations
pub use Rattle.recovery_core.specs.OrchBase as OrchBase
pub use Rattle.recovery_core.specs.Permission as Permission
pub use Rattle.recovery_core.specs.PromotionRules as PromotionRules
pub mod PseudoMatch
pub mod RecoveryCore
pub use Rattle.unended_jobs.specs.RecoveryEnds as RecoveryEnds
pub use Rattle.unended_jobs.specs.RecoveryHooks as RecoveryHooks
pub use Rattle.recovery_core.specs.RecoveryPlans as RecoveryPlans
pub mod Regroup
pub mod Scenarios
pub use Rattle.recovery_core.specs.ServerModel as ServerModel
pub use Rattle.recovery_core.specs.ServerWords as ServerWords
pub use Rattle.scenarios.specs.Turns as Turns
pub mod UnendedJobs
