pub mod Prelude
pub mod OpeningKin
pub mod Openings
pub mod Rooms
