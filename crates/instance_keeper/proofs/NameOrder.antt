-- What is passed on of name_order: lemmas that are cited above.
pub use Rattle.name_order.proofs.Arranged
pub use Rattle.name_order.proofs.ByName
pub use Rattle.name_order.proofs.Placing
pub use Rattle.name_order.proofs.Sorting
