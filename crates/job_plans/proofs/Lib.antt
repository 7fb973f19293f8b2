mod Prelude
pub mod Entries
pub mod Sights
pub mod Views
