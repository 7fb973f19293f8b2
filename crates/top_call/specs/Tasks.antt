-- What is passed on of tasks: its types and definitions.
pub use Rattle.tasks.specs.declared
pub use Rattle.tasks.specs.Asked
pub use Rattle.tasks.specs.Begun
pub use Rattle.tasks.specs.Closing
pub use Rattle.tasks.specs.Endings
pub use Rattle.tasks.specs.Journals
pub use Rattle.tasks.specs.Known
pub use Rattle.tasks.specs.Laws
pub use Rattle.tasks.specs.Plans
pub use Rattle.tasks.specs.Progress
pub use Rattle.tasks.specs.Report
pub use Rattle.tasks.specs.Singles
pub use Rattle.tasks.specs.Sinks
pub use Rattle.tasks.specs.Stages
pub use Rattle.tasks.specs.Stands
pub use Rattle.tasks.specs.Works
