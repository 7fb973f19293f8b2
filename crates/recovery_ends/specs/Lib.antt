pub mod Shapes
pub mod Ends
