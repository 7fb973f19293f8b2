pub mod Prelude
pub mod Sound
pub mod KnownPatterns
pub mod Expansions
pub mod Order
pub mod ReadTurns
