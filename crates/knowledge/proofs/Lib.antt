pub mod Given
pub mod Causes
pub mod Newer
pub mod Closings
pub mod Remaining
pub use Rattle.command_outcomes.proofs.AuditLog as AuditLog
pub use Rattle.command_outcomes.proofs.BinlogCoords as BinlogCoords
pub mod CommandOutcomes
pub use Rattle.command_outcomes.proofs.CommandsProofs as CommandsProofs
pub use Rattle.command_outcomes.proofs.FailureAnalysis as FailureAnalysis
pub use Rattle.command_outcomes.proofs.InstanceKeeper as InstanceKeeper
pub use Rattle.command_outcomes.proofs.KeptRows as KeptRows
pub use Rattle.command_outcomes.proofs.NameOrder as NameOrder
pub use Rattle.command_outcomes.proofs.OpeningsProofs as OpeningsProofs
pub use Rattle.command_outcomes.proofs.OperationsProofs as OperationsProofs
pub use Rattle.command_outcomes.proofs.PermissionProofs as PermissionProofs
pub use Rattle.command_outcomes.proofs.RecoveryCore as RecoveryCore
pub use Rattle.command_outcomes.proofs.RecoveryEnds as RecoveryEnds
pub use Rattle.command_outcomes.proofs.RecoveryPlans as RecoveryPlans
pub use Rattle.command_outcomes.proofs.ScenariosProofs as ScenariosProofs
pub use Rattle.command_outcomes.proofs.ServerModel as ServerModel
pub use Rattle.command_outcomes.proofs.UnendedJobs as UnendedJobs
