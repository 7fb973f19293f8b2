-- What is passed on of node_claims: lemmas that are cited above.
pub use Rattle.node_claims.proofs.Owned
