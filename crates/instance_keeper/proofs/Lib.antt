mod Prelude
pub mod Counts
pub mod Books
pub mod Steady
pub mod Renewal
pub mod BookRows
pub mod BookLaws
pub mod Ranked
pub mod Leasing
pub mod Ringed
pub mod Cleared
pub mod InstanceRows
pub mod HadRows
pub mod NoRecovery
pub mod Reloads
pub use Rattle.kept_rows.proofs.BinlogCoords as BinlogCoords
pub use Rattle.kept_rows.proofs.GtidSets as GtidSets
pub mod KeptRows
pub mod NameOrder
pub use Rattle.kept_rows.proofs.OrchBase as OrchBase
