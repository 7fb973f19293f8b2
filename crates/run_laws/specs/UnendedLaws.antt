-- What is passed on of unended_laws: its types and definitions.
pub use Rattle.unended_laws.specs.Beside
pub use Rattle.unended_laws.specs.CoveredBeside
pub use Rattle.unended_laws.specs.CoveredFlights
pub use Rattle.unended_laws.specs.CoveredPassages
pub use Rattle.unended_laws.specs.Flights
pub use Rattle.unended_laws.specs.Passages
pub use Rattle.unended_laws.specs.Tended
pub use Rattle.unended_laws.specs.Turns
pub use Rattle.unended_laws.specs.Upkeep
