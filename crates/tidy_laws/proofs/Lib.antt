mod Prelude
pub mod Positions
pub mod Exchanged
pub mod Tidying
pub mod Opened
pub mod Turns
pub mod Recovering
pub mod Begun
pub mod Passing
pub mod Reading
pub mod Saying
pub mod Starting
pub mod States
pub mod Runs
pub mod Worlds
