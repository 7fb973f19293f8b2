mod Prelude
pub mod Firsts
pub mod Orders
pub mod Choosing
pub mod Ranks
pub mod Lists
