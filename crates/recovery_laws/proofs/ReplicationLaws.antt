-- What is passed on of replication_laws: lemmas that are cited above.
pub use Rattle.replication_laws.proofs.Applies
pub use Rattle.replication_laws.proofs.Changes as Changes
pub use Rattle.replication_laws.proofs.Runs
pub use Rattle.replication_laws.proofs.Worlds
