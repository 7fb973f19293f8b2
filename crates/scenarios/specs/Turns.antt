-- What is passed on of turns: its types and definitions.
pub use Rattle.turns.specs.declared
pub use Rattle.turns.specs.Plain
