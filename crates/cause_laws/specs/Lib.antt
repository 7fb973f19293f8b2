pub mod Prelude
pub mod Events
pub mod Courses
pub mod Hands
