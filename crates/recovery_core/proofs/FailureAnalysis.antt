-- What is passed on of failure_analysis: lemmas that are cited above.
pub use Rattle.failure_analysis.proofs.Counting
pub use Rattle.failure_analysis.proofs.Rows
