pub mod Prelude
pub mod Words
pub mod Fields
pub mod Tables
pub mod Reading
pub mod Written
pub mod Kept
