-- What is passed on of unended_jobs: lemmas that are cited above.
pub use Rattle.unended_jobs.proofs.Going
pub use Rattle.unended_jobs.proofs.Looking
pub use Rattle.unended_jobs.proofs.Numbers
pub use Rattle.unended_jobs.proofs.Turning
