-- What is passed on of job_laws: its types and definitions.
pub use Rattle.job_laws.specs.Flights
pub use Rattle.job_laws.specs.Footing
pub use Rattle.job_laws.specs.Held
pub use Rattle.job_laws.specs.Leases
pub use Rattle.job_laws.specs.Marked
pub use Rattle.job_laws.specs.Matched
pub use Rattle.job_laws.specs.Passages
pub use Rattle.job_laws.specs.Sound
