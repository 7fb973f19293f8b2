mod Prelude
pub mod Lists
pub mod Steps
pub mod Matches
pub mod Named
