pub mod LabelOrder
pub mod Nodes
