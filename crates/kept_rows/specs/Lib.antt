pub mod Rows
pub mod Recoveries
pub mod Edits
pub mod Keeping
pub mod Same
pub mod SortKeys
pub mod Ranges
pub mod Servers
pub mod Seeing
pub use Rattle.server_words.specs.BinlogCoords as BinlogCoords
pub use Rattle.server_words.specs.GtidSets as GtidSets
pub use Rattle.server_words.specs.OrchBase as OrchBase
pub mod ServerWords
