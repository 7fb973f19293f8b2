-- What is passed on of recovery_plans: lemmas that are cited above.
pub use Rattle.recovery_plans.proofs.Allowed
pub use Rattle.recovery_plans.proofs.Choices
pub use Rattle.recovery_plans.proofs.Leading
pub use Rattle.recovery_plans.proofs.Walking
