pub mod Faults
pub mod Forms
pub mod Judging
pub mod Patterns
pub mod Searches
