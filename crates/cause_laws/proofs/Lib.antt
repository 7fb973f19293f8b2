mod Prelude
pub mod Answering
pub mod Aiming
pub mod Taking
pub mod Stopping
pub mod Turning
pub mod Holding
pub mod JobLaws
