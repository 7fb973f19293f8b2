pub mod Prelude
pub mod Book
pub mod Counts
pub mod ServerLists
pub mod Bridges
pub mod Leases
pub mod Had
pub mod Reloads
pub use Rattle.kept_rows.specs.BinlogCoords as BinlogCoords
pub use Rattle.kept_rows.specs.GtidSets as GtidSets
pub mod KeptRows
pub mod NameOrder
pub use Rattle.kept_rows.specs.OrchBase as OrchBase
pub use Rattle.kept_rows.specs.ServerWords as ServerWords
