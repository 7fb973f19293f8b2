-- What is passed on of commands: lemmas that are cited above.
pub use Rattle.commands.proofs.Numbers
pub use Rattle.commands.proofs.Words
