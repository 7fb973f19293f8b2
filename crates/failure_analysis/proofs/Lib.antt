pub mod Prelude
pub mod Rows
pub mod Counting
pub mod Entries
