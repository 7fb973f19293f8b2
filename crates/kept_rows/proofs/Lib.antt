pub mod Prelude
pub mod Lists
pub mod SortKeys
pub mod Rising
pub mod Known
pub mod Same
pub mod LookUps
pub mod SameRows
pub mod Recoveries
pub use Rattle.server_words.proofs.BinlogCoords as BinlogCoords
pub use Rattle.server_words.proofs.GtidSets as GtidSets
pub use Rattle.server_words.proofs.OrchBase as OrchBase
