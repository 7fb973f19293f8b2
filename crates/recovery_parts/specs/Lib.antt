pub mod Doings
pub mod Fates
pub mod Grounds
pub mod Infos
pub mod Lots
