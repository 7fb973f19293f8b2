pub mod Table
pub mod Analysis
pub mod Tallies
