pub mod BinlogCoords
pub mod GtidSets
pub use Rattle.binlog_coords.proofs.OrchBase as OrchBase
