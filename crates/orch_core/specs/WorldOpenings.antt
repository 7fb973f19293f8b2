-- What is passed on of world_openings: its types and definitions.
pub use Rattle.world_openings.specs.Makings
pub use Rattle.world_openings.specs.Opening
pub use Rattle.world_openings.specs.Room
