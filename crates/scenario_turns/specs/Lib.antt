pub mod Prelude
pub mod Found
pub mod KnownPatterns
pub mod Commands
pub mod Words
pub mod Expansion
pub mod Turns
