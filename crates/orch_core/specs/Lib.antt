pub mod Prelude
pub mod States
pub mod Jobs
pub mod Nodes
pub mod Restarts
pub mod TurnExchanges
pub mod Polls
pub mod Replies
pub mod After
pub mod Runs
pub mod Keeping
pub mod Rounds
pub mod Starts
pub mod RefusedCommands
pub mod EngineBy
pub mod Due
pub mod OrchBy
pub mod Settling
pub use Rattle.knowledge.specs.AskingCommands as AskingCommands
pub use Rattle.knowledge.specs.AuditLog as AuditLog
pub use Rattle.knowledge.specs.BinlogCoords as BinlogCoords
pub use Rattle.knowledge.specs.BookCommands as BookCommands
pub use Rattle.knowledge.specs.CommandOutcomes as CommandOutcomes
pub use Rattle.knowledge.specs.Commands as Commands
pub use Rattle.knowledge.specs.FailureAnalysis as FailureAnalysis
pub use Rattle.knowledge.specs.HookTexts as HookTexts
pub use Rattle.knowledge.specs.InstanceKeeper as InstanceKeeper
pub use Rattle.knowledge.specs.KeptRows as KeptRows
pub mod Knowledge
pub use Rattle.knowledge.specs.MovesCoords as MovesCoords
pub use Rattle.knowledge.specs.MovesGtid as MovesGtid
pub mod NodeClaims
pub mod OpeningBook
pub use Rattle.knowledge.specs.Openings as Openings
pub use Rattle.knowledge.specs.Operations as Operations
pub use Rattle.knowledge.specs.OrchBase as OrchBase
pub use Rattle.knowledge.specs.Permission as Permission
pub use Rattle.knowledge.specs.PromotionRules as PromotionRules
pub use Rattle.knowledge.specs.PseudoMatch as PseudoMatch
pub use Rattle.knowledge.specs.RecoveryCore as RecoveryCore
pub use Rattle.knowledge.specs.RecoveryHooks as RecoveryHooks
pub use Rattle.knowledge.specs.RecoveryPlans as RecoveryPlans
pub use Rattle.knowledge.specs.Regroup as Regroup
pub use Rattle.knowledge.specs.Scenarios as Scenarios
pub use Rattle.knowledge.specs.ServerModel as ServerModel
pub use Rattle.knowledge.specs.ServerWords as ServerWords
pub use Rattle.knowledge.specs.Turns as Turns
pub use Rattle.knowledge.specs.UnendedJobs as UnendedJobs
pub mod WorldOpenings
