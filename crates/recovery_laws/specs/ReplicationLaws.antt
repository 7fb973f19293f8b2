-- What is passed on of replication_laws: its types and definitions.
pub use Rattle.replication_laws.specs.Below
pub use Rattle.replication_laws.specs.Faults
pub use Rattle.replication_laws.specs.Growth
pub use Rattle.replication_laws.specs.Purged
pub use Rattle.replication_laws.specs.Room
