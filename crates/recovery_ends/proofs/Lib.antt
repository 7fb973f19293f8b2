pub mod Prelude
pub mod Shapes
pub mod Fitting
pub mod Ended
pub mod Observing
