-- What is passed on of job_laws: lemmas that are cited above.
pub use Rattle.job_laws.proofs.Begun
pub use Rattle.job_laws.proofs.Bridging
pub use Rattle.job_laws.proofs.Leased
pub use Rattle.job_laws.proofs.Listed
pub use Rattle.job_laws.proofs.Lists
pub use Rattle.job_laws.proofs.Marking
pub use Rattle.job_laws.proofs.Matching
pub use Rattle.job_laws.proofs.Modes
pub use Rattle.job_laws.proofs.Others
pub use Rattle.job_laws.proofs.Passages
pub use Rattle.job_laws.proofs.Passing
pub use Rattle.job_laws.proofs.Showing
pub use Rattle.job_laws.proofs.Spanning
pub use Rattle.job_laws.proofs.Stopped
pub use Rattle.job_laws.proofs.Turns
