pub mod BinlogCoords
pub mod GtidSets
pub mod Words
pub use Rattle.binlog_coords.specs.OrchBase as OrchBase
