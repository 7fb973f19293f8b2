-- What is passed on of recovery_laws: lemmas that are cited above.
pub use Rattle.recovery_laws.proofs.Begun
pub use Rattle.recovery_laws.proofs.Beside
pub use Rattle.recovery_laws.proofs.Choosing
pub use Rattle.recovery_laws.proofs.Deciding
pub use Rattle.recovery_laws.proofs.Effects
pub use Rattle.recovery_laws.proofs.Leasing
pub use Rattle.recovery_laws.proofs.Passing
pub use Rattle.recovery_laws.proofs.Ringed
pub use Rattle.recovery_laws.proofs.Sounding
pub use Rattle.recovery_laws.proofs.Standing
pub use Rattle.recovery_laws.proofs.Taking
