-- What is passed on of move_laws: lemmas that are cited above.
pub use Rattle.move_laws.proofs.Firsts
