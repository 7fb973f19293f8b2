-- What is passed on of tasks: lemmas that are cited above.
pub use Rattle.tasks.proofs.Own
