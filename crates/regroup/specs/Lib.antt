pub mod Prelude
pub mod Commands
pub mod Ways
pub mod Permits
pub mod Plans
