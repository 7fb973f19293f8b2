-- What is passed on of command_outcomes: lemmas that are cited above.
pub use Rattle.command_outcomes.proofs.Begun
pub use Rattle.command_outcomes.proofs.HookTold
