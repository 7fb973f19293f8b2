mod Prelude
pub mod Tellings
pub mod Begun
pub mod Joining
pub mod Covering
pub mod Tended
pub mod Coming
pub mod Hooks
pub mod Finishing
pub mod HookTellings
pub mod Entries
pub mod Facts
pub mod Upkeep
pub mod Origins
pub mod Still
pub mod Scenarios
pub mod Tending
pub mod Failing
pub mod TurningWell
pub mod Booking
pub mod Shown
pub mod There
pub mod LastLooks
pub mod Kept
pub mod Ended
pub mod Looking
pub mod Looks
pub use Rattle.run_laws.proofs.NameOrder as NameOrder
pub use Rattle.run_laws.proofs.OrchCore as OrchCore
pub mod RunLaws
