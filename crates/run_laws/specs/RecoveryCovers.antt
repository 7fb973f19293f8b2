-- What is passed on of recovery_covers: its types and definitions.
pub use Rattle.recovery_covers.specs.Covers
pub use Rattle.recovery_covers.specs.SoFar
