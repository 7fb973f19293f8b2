mod Prelude
pub mod Sorting
pub mod ByName
pub mod Arranged
pub mod Placing
