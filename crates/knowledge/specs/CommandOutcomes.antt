-- What is passed on of command_outcomes: its types and definitions.
pub use Rattle.command_outcomes.specs.declared
pub use Rattle.command_outcomes.specs.Beginnings
pub use Rattle.command_outcomes.specs.BeginningsBy
pub use Rattle.command_outcomes.specs.CommandsBy
pub use Rattle.command_outcomes.specs.HookTelling
pub use Rattle.command_outcomes.specs.Ids
pub use Rattle.command_outcomes.specs.Jobs
pub use Rattle.command_outcomes.specs.Outcomes
pub use Rattle.command_outcomes.specs.Periods
pub use Rattle.command_outcomes.specs.Readings
