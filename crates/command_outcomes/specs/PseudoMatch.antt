-- What is passed on of pseudo_match: its types and definitions.
pub use Rattle.pseudo_match.specs.Commands
pub use Rattle.pseudo_match.specs.Permits
pub use Rattle.pseudo_match.specs.Plans
