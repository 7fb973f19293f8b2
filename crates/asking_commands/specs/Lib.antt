pub mod Prelude
pub mod Lines
pub mod Asking
pub mod Labels
pub mod Trees
pub mod Analysis
pub mod Answers
