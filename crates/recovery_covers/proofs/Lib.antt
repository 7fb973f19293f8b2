pub mod Prelude
pub mod Times
pub mod Covering
pub mod Changing
pub mod Chosen
pub mod Handed
pub mod Decided
pub mod Completing
pub mod Turning
pub mod Begun
pub mod Done
pub mod Running
pub mod Placing
pub mod Examples
pub mod Telling
pub mod Making
pub mod Doing
pub mod Staying
pub mod Ordering
pub mod Keeping
pub use Rattle.recovery_laws.proofs.JobLaws as JobLaws
pub mod RecoveryLaws
pub use Rattle.recovery_laws.proofs.ReplicationLaws as ReplicationLaws
