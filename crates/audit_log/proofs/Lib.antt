mod Prelude
pub mod Changes
pub mod Changing
pub mod Extending
pub mod Finding
pub mod Indexing
pub mod Kept
pub mod Linking
pub mod Parting
pub mod Loaded
pub mod Stepping
pub mod Walking
pub mod Within
