-- What is passed on of promotion_rules: its types and definitions.
pub use Rattle.promotion_rules.specs.declared
pub use Rattle.promotion_rules.specs.Choice
pub use Rattle.promotion_rules.specs.Chosen
pub use Rattle.promotion_rules.specs.Groups
