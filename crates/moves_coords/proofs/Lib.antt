mod Prelude
pub mod Named
pub mod Free
