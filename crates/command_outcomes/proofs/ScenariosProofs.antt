-- What is passed on of scenarios: lemmas that are cited above.
pub use Rattle.scenarios.proofs.Rooms
