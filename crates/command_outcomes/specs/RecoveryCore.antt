-- What is passed on of recovery_core: its types and definitions.
pub use Rattle.recovery_core.specs.declared
pub use Rattle.recovery_core.specs.Asks
pub use Rattle.recovery_core.specs.Begun
pub use Rattle.recovery_core.specs.Checks
pub use Rattle.recovery_core.specs.Endings
pub use Rattle.recovery_core.specs.Groups
pub use Rattle.recovery_core.specs.Recoveries
pub use Rattle.recovery_core.specs.Scans
pub use Rattle.recovery_core.specs.Takeovers
pub use Rattle.recovery_core.specs.Tries
