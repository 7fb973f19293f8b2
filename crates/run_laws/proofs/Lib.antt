pub mod Prelude
pub mod Once
pub mod Naming
pub mod Apart
pub mod TurnJobs
pub mod Ready
pub mod BegunInTurn
pub mod ReadyOutcomes
pub mod Readiness
pub mod Listing
pub mod Leading
pub mod HeldLines
pub mod PlanTurns
pub mod Recoveries
pub mod FlownOutcomes
pub mod Flown
pub mod StartStates
pub mod Worlds
pub mod Passing
pub mod Periods
pub mod Told
pub mod Beginnings
pub mod Logged
pub mod Lines
pub mod Unasked
pub mod Closings
pub mod Loads
pub mod Sameness
pub mod Entering
pub mod Counting
pub mod Parts
pub mod JobEntries
pub mod Aims
pub mod Fates
pub mod Reloads
pub mod ClaimRows
pub mod Follows
pub mod Audits
pub mod Permissions
pub mod Plain
pub mod Marks
pub mod RunLaws
pub mod NodeClaims
pub mod Acting
pub mod Making
pub mod Readings
pub mod Staying
pub mod Came
pub mod Moments
pub mod Waits
pub mod Tables
pub mod Shown
pub mod CheckTables
pub mod Stopping
pub mod Hands
pub mod LinesHold
pub mod ClaimKept
pub mod JobTurns
pub mod Lowest
pub mod Failures
pub use Rattle.orch_core.proofs.BinlogCoords as BinlogCoords
pub mod CauseLaws
pub use Rattle.recovery_covers.proofs.JobLaws as JobLaws
pub mod MoveLaws
pub use Rattle.orch_core.proofs.NameOrder as NameOrder
pub use Rattle.orch_core.proofs.OpeningsProofs as OpeningsProofs
pub use Rattle.orch_core.proofs.OperationsProofs as OperationsProofs
pub mod OrchCore
pub use Rattle.orch_core.proofs.RecoveryCore as RecoveryCore
pub use Rattle.recovery_covers.proofs.RecoveryLaws as RecoveryLaws
pub use Rattle.orch_core.proofs.RecoveryPlans as RecoveryPlans
pub use Rattle.recovery_covers.proofs.ReplicationLaws as ReplicationLaws
pub use Rattle.orch_core.proofs.ScenariosProofs as ScenariosProofs
pub use Rattle.orch_core.proofs.ServerModel as ServerModel
pub mod UnendedLaws
pub use Rattle.orch_core.proofs.WorldOpenings as WorldOpenings
