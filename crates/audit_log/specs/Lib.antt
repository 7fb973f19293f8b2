pub mod Audits
pub mod Apart
pub mod Extended
pub mod Index
pub mod Loading
