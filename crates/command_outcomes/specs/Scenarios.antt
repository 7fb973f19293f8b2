-- What is passed on of scenarios: its types and definitions.
pub use Rattle.scenarios.specs.declared
pub use Rattle.scenarios.specs.Aliases
pub use Rattle.scenarios.specs.Blocks
pub use Rattle.scenarios.specs.Scenarios
pub use Rattle.scenarios.specs.ValidTurns
