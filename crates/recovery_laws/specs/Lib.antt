pub mod Prelude
pub mod Rings
pub mod HeldRecoveries
pub mod SoundRecoveries
pub mod LeasedRecoveries
pub mod Passing
pub mod Staying
pub mod Standing
pub use Rattle.recovery_plans.specs.BinlogCoords as BinlogCoords
pub use Rattle.recovery_plans.specs.Commands as Commands
pub use Rattle.recovery_plans.specs.GtidSets as GtidSets
pub use Rattle.recovery_plans.specs.InstanceKeeper as InstanceKeeper
pub mod JobLaws
pub use Rattle.recovery_plans.specs.KeptRows as KeptRows
pub use Rattle.recovery_plans.specs.Operations as Operations
pub use Rattle.recovery_plans.specs.OrchBase as OrchBase
pub use Rattle.recovery_plans.specs.PromotionRules as PromotionRules
pub mod RecoveryEnds
pub mod RecoveryPlans
pub mod ReplicationLaws
pub use Rattle.recovery_plans.specs.ServerModel as ServerModel
pub use Rattle.recovery_plans.specs.ServerWords as ServerWords
