pub mod Prelude
pub mod States
pub mod Begun
pub mod SingleTurns
pub mod Finishes
pub mod Facts
pub mod Finished
pub mod Origins
pub mod RunFinishes
pub mod TurnsWell
pub mod Booking
pub mod Failing
pub mod Looks
pub mod Everywhere
pub use Rattle.run_laws.specs.AuditLog as AuditLog
pub use Rattle.run_laws.specs.CommandOutcomes as CommandOutcomes
pub use Rattle.run_laws.specs.Commands as Commands
pub use Rattle.run_laws.specs.InstanceKeeper as InstanceKeeper
pub use Rattle.run_laws.specs.KeptRows as KeptRows
pub use Rattle.run_laws.specs.Knowledge as Knowledge
pub use Rattle.run_laws.specs.NodeClaims as NodeClaims
pub use Rattle.run_laws.specs.OpeningBook as OpeningBook
pub use Rattle.run_laws.specs.OrchBase as OrchBase
pub use Rattle.run_laws.specs.OrchCore as OrchCore
pub use Rattle.run_laws.specs.RecoveryCore as RecoveryCore
pub mod RunLaws
pub use Rattle.run_laws.specs.Scenarios as Scenarios
pub use Rattle.run_laws.specs.ServerModel as ServerModel
pub use Rattle.run_laws.specs.Turns as Turns
pub use Rattle.run_laws.specs.UnendedJobs as UnendedJobs
pub use Rattle.run_laws.specs.WorldOpenings as WorldOpenings
