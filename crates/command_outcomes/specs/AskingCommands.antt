-- What is passed on of asking_commands: its types and definitions.
pub use Rattle.asking_commands.specs.Analysis
pub use Rattle.asking_commands.specs.Answers
pub use Rattle.asking_commands.specs.Asking
pub use Rattle.asking_commands.specs.Labels
pub use Rattle.asking_commands.specs.Lines
pub use Rattle.asking_commands.specs.Trees
