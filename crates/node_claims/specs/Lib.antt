pub mod Claims
pub mod Reached
