pub mod Prelude
pub mod Reading
pub mod Nodes
