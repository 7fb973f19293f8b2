mod Prelude
pub mod Climbing
pub mod Named
pub mod Free
