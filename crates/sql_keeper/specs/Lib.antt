pub mod Counting
pub mod Backends
