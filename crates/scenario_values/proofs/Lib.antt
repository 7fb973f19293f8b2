mod Prelude
pub mod Unders
pub mod Escapes
pub mod Keys
pub mod Texts
pub mod Each
