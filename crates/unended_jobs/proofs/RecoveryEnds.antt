-- What is passed on of recovery_ends: lemmas that are cited above.
pub use Rattle.recovery_ends.proofs.Ended
