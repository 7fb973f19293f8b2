pub mod Prelude
pub mod Covers
pub mod SoFar
pub mod Chains
pub mod Between
pub mod Told
pub mod Doing
pub mod Kept
pub use Rattle.recovery_laws.specs.BinlogCoords as BinlogCoords
pub use Rattle.recovery_laws.specs.JobLaws as JobLaws
pub mod RecoveryLaws
pub use Rattle.recovery_laws.specs.ReplicationLaws as ReplicationLaws
