-- What is passed on of binlog_coords: its types and definitions.
pub use Rattle.binlog_coords.specs.declared
pub use Rattle.binlog_coords.specs.Entries
pub use Rattle.binlog_coords.specs.Grammar
pub use Rattle.binlog_coords.specs.Grown
pub use Rattle.binlog_coords.specs.Index
pub use Rattle.binlog_coords.specs.Kept
pub use Rattle.binlog_coords.specs.Log
pub use Rattle.binlog_coords.specs.Relay
pub use Rattle.binlog_coords.specs.Slots
pub use Rattle.binlog_coords.specs.Text
