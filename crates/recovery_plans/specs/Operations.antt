-- What is passed on of operations: its types and definitions.
pub use Rattle.operations.specs.declared
pub use Rattle.operations.specs.Changes
pub use Rattle.operations.specs.Deeds
pub use Rattle.operations.specs.Ending
pub use Rattle.operations.specs.Jobs
pub use Rattle.operations.specs.Matching
pub use Rattle.operations.specs.Named
pub use Rattle.operations.specs.Plans
pub use Rattle.operations.specs.Targets
pub use Rattle.operations.specs.Turns
