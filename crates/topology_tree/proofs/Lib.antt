mod Prelude
pub mod Chains
pub mod Children
pub mod Levels
pub mod Marking
pub mod Walking
pub mod Members
pub mod TreeWalks
pub mod Computed
