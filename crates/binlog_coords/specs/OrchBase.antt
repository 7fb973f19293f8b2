-- What is passed on of orch_base: its types and definitions.
pub use Rattle.orch_base.specs.declared
pub use Rattle.orch_base.specs.Causes
pub use Rattle.orch_base.specs.Chains
pub use Rattle.orch_base.specs.Ends
pub use Rattle.orch_base.specs.Gives
pub use Rattle.orch_base.specs.Histories
pub use Rattle.orch_base.specs.Memory
pub use Rattle.orch_base.specs.Names
pub use Rattle.orch_base.specs.Sources
pub use Rattle.orch_base.specs.Whole
pub use Rattle.orch_base.specs.Words
