mod Prelude
pub mod Choices
pub mod Naming
pub mod Allowed
pub mod Begun
pub mod Worlds
pub mod Masters
pub mod Others
pub mod Walking
pub mod Leading
pub mod Promoting
pub use Rattle.operations.proofs.BinlogCoords as BinlogCoords
pub use Rattle.operations.proofs.KeptRows as KeptRows
pub mod OperationsProofs
pub use Rattle.operations.proofs.OrchBase as OrchBase
pub mod PromotionRules
pub use Rattle.operations.proofs.ServerModel as ServerModel
