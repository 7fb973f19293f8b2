-- What is passed on of plan_texts: its types and definitions.
pub use Rattle.plan_texts.specs.declared
pub use Rattle.plan_texts.specs.Conditions
pub use Rattle.plan_texts.specs.Examples
pub use Rattle.plan_texts.specs.Letters
pub use Rattle.plan_texts.specs.Statements
pub use Rattle.plan_texts.specs.Texts
