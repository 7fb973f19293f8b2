mod Prelude
pub mod Flawed
pub mod HeldLogs
pub mod KinGrows
pub mod KinSteps
pub mod KinTables
pub mod Kinship
pub mod Linked
pub mod ListTests
pub mod Loops
pub mod Numbered
pub mod Standings
pub mod Told
pub mod Purgings
