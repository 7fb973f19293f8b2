mod Prelude
pub mod Line
pub mod Joins
pub mod Points
pub mod Search
pub mod Sweep
pub mod Texts
pub mod Pieces
pub mod RoundTrip
pub mod SameSets
pub mod Count
pub mod Inserts
pub mod Parts
