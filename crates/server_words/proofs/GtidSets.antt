-- What is passed on of gtid_sets: lemmas that are cited above.
pub use Rattle.gtid_sets.proofs.Inserts
pub use Rattle.gtid_sets.proofs.RoundTrip
pub use Rattle.gtid_sets.proofs.SameSets
