-- What is passed on of recovery_parts.
pub use Rattle.recovery_parts.specs.Grounds
