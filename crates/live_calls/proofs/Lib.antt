mod Prelude
pub mod Alike
pub mod Dumps
pub mod Ends
pub mod Leaving
pub mod LiveScenarios
pub mod Reports
pub mod Runs
