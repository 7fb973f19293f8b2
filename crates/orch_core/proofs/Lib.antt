pub mod Prelude
pub mod Servers
pub mod Sources
pub mod Recoveries
pub mod Periods
pub mod States
pub mod Claims
pub mod Runs
pub mod Taking
pub mod Starts
pub mod Beginnings
pub mod Comes
pub mod Outcomes
pub mod Turned
pub mod Others
pub mod LastPolls
pub mod Finishing
pub mod Entries
pub mod Joining
pub mod Closed
pub mod Slots
pub use Rattle.knowledge.proofs.AuditLog as AuditLog
pub use Rattle.knowledge.proofs.BinlogCoords as BinlogCoords
pub use Rattle.knowledge.proofs.CommandOutcomes as CommandOutcomes
pub use Rattle.knowledge.proofs.CommandsProofs as CommandsProofs
pub use Rattle.knowledge.proofs.FailureAnalysis as FailureAnalysis
pub use Rattle.knowledge.proofs.InstanceKeeper as InstanceKeeper
pub use Rattle.knowledge.proofs.KeptRows as KeptRows
pub mod KnowledgeProofs
pub use Rattle.knowledge.proofs.NameOrder as NameOrder
pub mod NodeClaims
pub mod OpeningBook
pub use Rattle.knowledge.proofs.OpeningsProofs as OpeningsProofs
pub use Rattle.knowledge.proofs.OperationsProofs as OperationsProofs
pub use Rattle.knowledge.proofs.PermissionProofs as PermissionProofs
pub use Rattle.knowledge.proofs.RecoveryCore as RecoveryCore
pub use Rattle.knowledge.proofs.RecoveryPlans as RecoveryPlans
pub use Rattle.knowledge.proofs.ScenariosProofs as ScenariosProofs
pub use Rattle.knowledge.proofs.ServerModel as ServerModel
pub use Rattle.knowledge.proofs.UnendedJobs as UnendedJobs
pub mod WorldOpenings
