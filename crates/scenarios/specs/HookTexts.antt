-- What is passed on of hook_texts: its types and definitions.
pub use Rattle.hook_texts.specs.declared
pub use Rattle.hook_texts.specs.Expanded
pub use Rattle.hook_texts.specs.Hooks
