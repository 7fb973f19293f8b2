pub mod Numbers
pub mod Servers
pub mod Turns
pub mod Texts
pub mod Pieces
pub mod Promises
pub mod Bounds
