pub mod Hooks
pub mod Expanded
