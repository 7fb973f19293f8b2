-- What is passed on of unended_jobs: its types and definitions.
pub use Rattle.unended_jobs.specs.declared
pub use Rattle.unended_jobs.specs.Hooked
pub use Rattle.unended_jobs.specs.Jobs
pub use Rattle.unended_jobs.specs.Looks
pub use Rattle.unended_jobs.specs.Rounds
pub use Rattle.unended_jobs.specs.Unended
