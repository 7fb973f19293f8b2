-- What is passed on of scenario_values: lemmas that are cited above.
pub use Rattle.scenario_values.proofs.Unders
