-- What is passed on of command_line: its types and definitions.
pub use Rattle.command_line.specs.declared
pub use Rattle.command_line.specs.Commands
pub use Rattle.command_line.specs.Options
pub use Rattle.command_line.specs.Places
pub use Rattle.command_line.specs.Taken
pub use Rattle.command_line.specs.Usages
pub use Rattle.command_line.specs.Values
