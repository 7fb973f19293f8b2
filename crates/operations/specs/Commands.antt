-- What is passed on of commands: its types and definitions.
pub use Rattle.commands.specs.declared
pub use Rattle.commands.specs.Causes
pub use Rattle.commands.specs.Names
pub use Rattle.commands.specs.Refusals
pub use Rattle.commands.specs.Routes
pub use Rattle.commands.specs.Table
pub use Rattle.commands.specs.Turns
pub use Rattle.commands.specs.Unknown
pub use Rattle.commands.specs.Values
