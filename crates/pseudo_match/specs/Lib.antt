pub mod Commands
pub mod Permits
pub mod Plans
