-- What is passed on of recovery_core: lemmas that are cited above.
pub use Rattle.recovery_core.proofs.Beginning
pub use Rattle.recovery_core.proofs.Ended
pub use Rattle.recovery_core.proofs.Entries
pub use Rattle.recovery_core.proofs.InTurn
pub use Rattle.recovery_core.proofs.Trying
