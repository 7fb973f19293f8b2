pub mod Prelude
pub mod Opened
pub mod LaidLogs
pub mod OpenedWorlds
pub mod Placings
