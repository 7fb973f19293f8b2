-- What is passed on of knowledge: its types and definitions.
pub use Rattle.knowledge.specs.declared
pub use Rattle.knowledge.specs.Closings
pub use Rattle.knowledge.specs.Faults
pub use Rattle.knowledge.specs.Kept
pub use Rattle.knowledge.specs.Knowing
pub use Rattle.knowledge.specs.KnowingBy
pub use Rattle.knowledge.specs.Newer
pub use Rattle.knowledge.specs.Replies
