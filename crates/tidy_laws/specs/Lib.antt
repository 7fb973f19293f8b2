pub mod Prelude
pub mod Clusters
pub mod Trim
pub mod Within
pub mod Recoveries
pub mod Flights
pub mod Runs
pub mod Dumps
