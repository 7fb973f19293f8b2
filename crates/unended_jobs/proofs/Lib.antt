mod Prelude
pub mod Seeing
pub mod Hooked
pub mod Looking
pub mod Going
pub mod Numbers
pub mod Turning
pub mod Rounding
pub mod RecoveryEnds
pub mod RecoveryHooks
pub use Rattle.recovery_plans.proofs.ServerModel as ServerModel
