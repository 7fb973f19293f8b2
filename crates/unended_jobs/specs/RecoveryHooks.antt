-- What is passed on of recovery_hooks: its types and definitions.
pub use Rattle.recovery_hooks.specs.Runs
