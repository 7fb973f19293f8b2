-- What is passed on of recovery_plans: lemmas that are cited above.
pub use Rattle.recovery_plans.proofs.Choices
pub use Rattle.recovery_plans.proofs.Naming
pub use Rattle.recovery_plans.proofs.Walking
pub use Rattle.recovery_plans.proofs.Worlds
