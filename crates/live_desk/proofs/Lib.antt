mod Prelude
pub mod Cursors
pub mod Entries
pub mod Desks
pub mod Unfailing
pub mod Ends
