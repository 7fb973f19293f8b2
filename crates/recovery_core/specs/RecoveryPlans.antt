-- What is passed on of recovery_plans: its types and definitions.
pub use Rattle.recovery_plans.specs.declared
pub use Rattle.recovery_plans.specs.Beginning
pub use Rattle.recovery_plans.specs.Deciding
pub use Rattle.recovery_plans.specs.Moves
pub use Rattle.recovery_plans.specs.Named
pub use Rattle.recovery_plans.specs.Recoveries
pub use Rattle.recovery_plans.specs.Stages
pub use Rattle.recovery_plans.specs.Standings
pub use Rattle.recovery_plans.specs.Table
pub use Rattle.recovery_plans.specs.Taking
pub use Rattle.recovery_plans.specs.Telling
pub use Rattle.recovery_plans.specs.Whys
