pub mod Prelude
pub mod Decisions
