-- What is passed on of job_laws: lemmas that are cited above.
pub use Rattle.job_laws.proofs.Planned
pub use Rattle.job_laws.proofs.Trying
