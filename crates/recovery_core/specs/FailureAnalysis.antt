-- What is passed on of failure_analysis: its types and definitions.
pub use Rattle.failure_analysis.specs.declared
pub use Rattle.failure_analysis.specs.Analysis
pub use Rattle.failure_analysis.specs.Table
pub use Rattle.failure_analysis.specs.Tallies
