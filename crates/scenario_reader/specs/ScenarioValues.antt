-- What is passed on of scenario_values: its types and definitions.
pub use Rattle.scenario_values.specs.declared
pub use Rattle.scenario_values.specs.Faults
pub use Rattle.scenario_values.specs.Values
