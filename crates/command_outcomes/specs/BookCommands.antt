-- What is passed on of book_commands: its types and definitions.
pub use Rattle.book_commands.specs.declared
pub use Rattle.book_commands.specs.Decisions
