pub mod Prelude
pub mod Counting
pub mod Audits
pub mod Opening
pub mod Following
pub mod Reads
