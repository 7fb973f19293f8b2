mod Prelude
pub mod Begun
pub mod Held
pub mod HookTold
pub mod Outcomes
pub use Rattle.recovery_core.proofs.AuditLog as AuditLog
pub use Rattle.recovery_core.proofs.BinlogCoords as BinlogCoords
pub use Rattle.recovery_core.proofs.CommandsProofs as CommandsProofs
pub use Rattle.recovery_core.proofs.FailureAnalysis as FailureAnalysis
pub use Rattle.recovery_core.proofs.InstanceKeeper as InstanceKeeper
pub use Rattle.recovery_core.proofs.KeptRows as KeptRows
pub use Rattle.recovery_core.proofs.NameOrder as NameOrder
pub use Rattle.scenarios.proofs.OpeningsProofs as OpeningsProofs
pub use Rattle.recovery_core.proofs.OperationsProofs as OperationsProofs
pub use Rattle.recovery_core.proofs.PermissionProofs as PermissionProofs
pub mod RecoveryCore
pub use Rattle.unended_jobs.proofs.RecoveryEnds as RecoveryEnds
pub use Rattle.recovery_core.proofs.RecoveryPlans as RecoveryPlans
pub mod ScenariosProofs
pub use Rattle.recovery_core.proofs.ServerModel as ServerModel
pub mod UnendedJobs
