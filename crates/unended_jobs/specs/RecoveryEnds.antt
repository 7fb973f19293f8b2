-- What is passed on of recovery_ends: its types and definitions.
pub use Rattle.recovery_ends.specs.Ends
pub use Rattle.recovery_ends.specs.Shapes
