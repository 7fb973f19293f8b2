pub mod Commands
pub mod Options
pub mod Places
pub mod Taken
pub mod Usages
pub mod Values
