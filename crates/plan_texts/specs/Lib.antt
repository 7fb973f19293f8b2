pub mod Prelude
pub mod Conditions
pub mod Examples
pub mod Letters
pub mod Statements
pub mod Texts
