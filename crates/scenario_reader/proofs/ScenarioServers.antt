-- What is passed on of scenario_servers: lemmas that are cited above.
pub use Rattle.scenario_servers.proofs.Apartness
pub use Rattle.scenario_servers.proofs.ServerSteps
pub use Rattle.scenario_servers.proofs.Steps
