-- What is passed on of scenario_servers: its types and definitions.
pub use Rattle.scenario_servers.specs.declared
pub use Rattle.scenario_servers.specs.Labels
pub use Rattle.scenario_servers.specs.NameTable
pub use Rattle.scenario_servers.specs.Names
pub use Rattle.scenario_servers.specs.Openings
pub use Rattle.scenario_servers.specs.Rules
pub use Rattle.scenario_servers.specs.Servers
pub use Rattle.scenario_servers.specs.UuidTable
