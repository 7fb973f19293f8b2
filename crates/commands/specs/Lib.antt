pub mod Causes
pub mod Table
pub mod Names
pub mod Refusals
pub mod Turns
pub mod Unknown
pub mod Values
pub mod Routes
