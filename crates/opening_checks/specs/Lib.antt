pub mod Prelude
pub mod Checked
pub mod Checks
pub mod KinTable
pub mod Places
pub mod ServerTests
pub mod SourceLogs
pub mod Values
