-- What is passed on of recovery_laws: its types and definitions.
pub use Rattle.recovery_laws.specs.HeldRecoveries
pub use Rattle.recovery_laws.specs.LeasedRecoveries
pub use Rattle.recovery_laws.specs.Passing
pub use Rattle.recovery_laws.specs.Rings
pub use Rattle.recovery_laws.specs.SoundRecoveries
pub use Rattle.recovery_laws.specs.Standing
pub use Rattle.recovery_laws.specs.Staying
