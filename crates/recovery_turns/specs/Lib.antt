pub mod Prelude
pub mod Cores
pub mod Deciding
pub mod Lines
pub mod Looks
pub mod RecoveriesBy
pub mod Steps
pub mod Turnings
