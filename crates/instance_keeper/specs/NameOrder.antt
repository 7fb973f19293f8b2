-- What is passed on of name_order: its types and definitions.
pub use Rattle.name_order.specs.NameOrder
pub use Rattle.name_order.specs.Sorts
