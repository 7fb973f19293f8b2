-- What is passed on of scenario_turns: its types and definitions.
pub use Rattle.scenario_turns.specs.declared
pub use Rattle.scenario_turns.specs.Commands
pub use Rattle.scenario_turns.specs.Expansion
pub use Rattle.scenario_turns.specs.Found
pub use Rattle.scenario_turns.specs.KnownPatterns
pub use Rattle.scenario_turns.specs.Turns
pub use Rattle.scenario_turns.specs.Words
