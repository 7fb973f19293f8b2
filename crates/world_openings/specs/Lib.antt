pub mod Opening
pub mod Makings
pub mod Room
