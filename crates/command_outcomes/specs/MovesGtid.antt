-- What is passed on of moves_gtid: its types and definitions.
pub use Rattle.moves_gtid.specs.Commands
pub use Rattle.moves_gtid.specs.Permits
pub use Rattle.moves_gtid.specs.Plans
