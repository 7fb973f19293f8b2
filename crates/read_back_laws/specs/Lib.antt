pub mod Prelude
pub mod Drawn
pub mod Whole
pub mod Reading
