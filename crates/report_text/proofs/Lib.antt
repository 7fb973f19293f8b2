pub mod NameTexts
pub mod ServerLines
pub mod Levels
