pub mod Prelude
pub mod Quotes
pub mod Printed
pub mod Lists
pub mod Points
pub mod Runs
pub mod Worlds
pub mod Servers
pub mod Wholes
pub mod ReadBack
pub mod Reading
pub mod Lines
pub use Rattle.scenario_generator.proofs.Sends as Sends
