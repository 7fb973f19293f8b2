pub mod Faults
pub mod Kept
pub mod Replies
pub mod Newer
pub mod Closings
pub mod Knowing
pub mod KnowingBy
pub use Rattle.command_outcomes.specs.AskingCommands as AskingCommands
pub use Rattle.command_outcomes.specs.AuditLog as AuditLog
pub use Rattle.command_outcomes.specs.BinlogCoords as BinlogCoords
pub use Rattle.command_outcomes.specs.BookCommands as BookCommands
pub use Rattle.command_outcomes.specs.BookViews as BookViews
pub mod CommandOutcomes
pub use Rattle.command_outcomes.specs.Commands as Commands
pub use Rattle.command_outcomes.specs.FailureAnalysis as FailureAnalysis
pub use Rattle.command_outcomes.specs.HookTexts as HookTexts
pub use Rattle.command_outcomes.specs.InstanceKeeper as InstanceKeeper
pub use Rattle.command_outcomes.specs.KeptRows as KeptRows
pub use Rattle.command_outcomes.specs.MovesCoords as MovesCoords
pub use Rattle.command_outcomes.specs.MovesGtid as MovesGtid
pub use Rattle.command_outcomes.specs.NameOrder as NameOrder
pub use Rattle.command_outcomes.specs.Openings as Openings
pub use Rattle.command_outcomes.specs.Operations as Operations
pub use Rattle.command_outcomes.specs.OrchBase as OrchBase
pub use Rattle.command_outcomes.specs.Permission as Permission
pub use Rattle.command_outcomes.specs.PromotionRules as PromotionRules
pub use Rattle.command_outcomes.specs.PseudoMatch as PseudoMatch
pub use Rattle.command_outcomes.specs.RecoveryCore as RecoveryCore
pub use Rattle.command_outcomes.specs.RecoveryEnds as RecoveryEnds
pub use Rattle.command_outcomes.specs.RecoveryHooks as RecoveryHooks
pub use Rattle.command_outcomes.specs.RecoveryPlans as RecoveryPlans
pub use Rattle.command_outcomes.specs.Regroup as Regroup
pub use Rattle.command_outcomes.specs.Scenarios as Scenarios
pub use Rattle.command_outcomes.specs.ServerModel as ServerModel
pub use Rattle.command_outcomes.specs.ServerWords as ServerWords
pub use Rattle.command_outcomes.specs.Turns as Turns
pub use Rattle.command_outcomes.specs.UnendedJobs as UnendedJobs
