pub mod Numbers
pub mod Needed
pub mod Words
