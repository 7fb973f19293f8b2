-- What is passed on of openings: its types and definitions.
pub use Rattle.openings.specs.declared
pub use Rattle.openings.specs.Apart
pub use Rattle.openings.specs.Flaws
pub use Rattle.openings.specs.Kin
pub use Rattle.openings.specs.Laying
pub use Rattle.openings.specs.Listed
pub use Rattle.openings.specs.Logs
pub use Rattle.openings.specs.Opening
pub use Rattle.openings.specs.OpeningBy
pub use Rattle.openings.specs.SameInits
pub use Rattle.openings.specs.Servers
pub use Rattle.openings.specs.Sound
pub use Rattle.openings.specs.Taking
