-- What is passed on of binlog_coords: lemmas that are cited above.
pub use Rattle.binlog_coords.proofs.Places
pub use Rattle.binlog_coords.proofs.Steps
