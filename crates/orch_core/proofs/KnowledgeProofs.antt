-- What is passed on of knowledge: lemmas that are cited above.
pub use Rattle.knowledge.proofs.Causes
