pub mod Prelude
pub mod Alike
pub mod Dumps
pub mod Ends
pub mod Reads
pub mod Reports
pub mod Runs
