mod Prelude
pub mod Missing
pub mod Following
pub mod Recoveries
pub mod Changes
pub mod ReadNumbers
mod Whole
mod Beyond
