pub mod Prelude
pub mod Begun
pub mod Followed
pub mod Conditions
pub mod Deciding
pub mod Doing
