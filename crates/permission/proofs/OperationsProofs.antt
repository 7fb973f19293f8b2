-- What is passed on of operations: lemmas that are cited above.
pub use Rattle.operations.proofs.Allowing
pub use Rattle.operations.proofs.Attempts
pub use Rattle.operations.proofs.Sets
pub use Rattle.operations.proofs.Sights
