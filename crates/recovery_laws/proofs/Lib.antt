pub mod Prelude
pub mod StaysRead
pub mod Ready
pub mod Choosing
pub mod Deciding
pub mod Taking
pub mod Sounding
pub mod Leasing
pub mod Begun
pub mod Ringed
pub mod Observing
pub mod Passing
pub mod Beside
pub mod Standing
pub mod Effects
pub use Rattle.recovery_plans.proofs.BinlogCoords as BinlogCoords
pub mod JobLaws
pub use Rattle.recovery_plans.proofs.OperationsProofs as OperationsProofs
pub use Rattle.recovery_plans.proofs.PromotionRules as PromotionRules
pub mod RecoveryEnds
pub mod RecoveryPlans
pub mod ReplicationLaws
