pub mod Prelude
pub mod Hooked
pub mod Unended
pub mod Looks
pub mod Jobs
pub mod Rounds
pub use Rattle.recovery_plans.specs.Commands as Commands
pub mod HookTexts
pub use Rattle.recovery_plans.specs.InstanceKeeper as InstanceKeeper
pub use Rattle.recovery_plans.specs.Operations as Operations
pub use Rattle.recovery_plans.specs.OrchBase as OrchBase
pub mod RecoveryEnds
pub mod RecoveryHooks
pub mod RecoveryPlans
pub use Rattle.recovery_plans.specs.ServerModel as ServerModel
pub use Rattle.recovery_plans.specs.ServerWords as ServerWords
