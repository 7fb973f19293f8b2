pub mod Prelude
pub mod Tests
pub mod Sets
pub mod Targets
pub mod Attempts
pub mod Allowing
pub mod Changing
pub mod Left
pub mod Marks
pub mod Named
pub mod Ending
pub mod Sights
pub use Rattle.instance_keeper.proofs.BinlogCoords as BinlogCoords
pub mod CommandsProofs
pub use Rattle.instance_keeper.proofs.GtidSets as GtidSets
pub mod InstanceKeeper
pub use Rattle.instance_keeper.proofs.KeptRows as KeptRows
pub use Rattle.instance_keeper.proofs.NameOrder as NameOrder
pub use Rattle.instance_keeper.proofs.OrchBase as OrchBase
pub mod ServerModel
