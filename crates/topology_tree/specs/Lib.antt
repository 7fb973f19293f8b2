pub mod Following
pub mod Forests
pub mod Trees
pub mod Marks
pub mod Links
pub mod LinksBy
pub mod Making
