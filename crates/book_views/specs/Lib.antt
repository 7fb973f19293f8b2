pub mod Sources
pub mod Forests
