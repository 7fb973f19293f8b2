-- What is passed on of promotion_rules: lemmas that are cited above.
pub use Rattle.promotion_rules.proofs.Choosing
pub use Rattle.promotion_rules.proofs.Orders
