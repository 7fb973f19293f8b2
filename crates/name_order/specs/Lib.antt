pub mod Sorts
pub mod NameOrder
