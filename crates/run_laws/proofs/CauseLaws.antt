-- What is passed on of cause_laws: lemmas that are cited above.
pub use Rattle.cause_laws.proofs.Turning
