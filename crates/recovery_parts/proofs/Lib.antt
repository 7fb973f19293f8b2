pub mod Divided
pub mod Lists
pub mod Servers
