pub mod Kinds
pub mod Entries
pub mod Desks
pub mod Ends
pub mod DeskBy
pub mod Roles
pub mod Tasks
pub mod Works
