pub mod Prelude
pub mod Labels
pub mod NameTable
pub mod Names
pub mod Openings
pub mod Rules
pub mod Servers
pub mod UuidTable
