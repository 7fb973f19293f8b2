-- What is passed on of moves_coords: its types and definitions.
pub use Rattle.moves_coords.specs.Commands
pub use Rattle.moves_coords.specs.Permits
pub use Rattle.moves_coords.specs.Plans
