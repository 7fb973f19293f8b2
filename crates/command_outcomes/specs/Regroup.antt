-- What is passed on of regroup: its types and definitions.
pub use Rattle.regroup.specs.Commands
pub use Rattle.regroup.specs.Permits
pub use Rattle.regroup.specs.Plans
pub use Rattle.regroup.specs.Ways
