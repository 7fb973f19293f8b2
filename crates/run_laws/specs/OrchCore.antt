-- What is passed on of orch_core: its types and definitions.
pub use Rattle.orch_core.specs.After
pub use Rattle.orch_core.specs.Due
pub use Rattle.orch_core.specs.EngineBy
pub use Rattle.orch_core.specs.Jobs
pub use Rattle.orch_core.specs.Keeping
pub use Rattle.orch_core.specs.Nodes
pub use Rattle.orch_core.specs.OrchBy
pub use Rattle.orch_core.specs.Polls
pub use Rattle.orch_core.specs.RefusedCommands
pub use Rattle.orch_core.specs.Replies
pub use Rattle.orch_core.specs.Restarts
pub use Rattle.orch_core.specs.Rounds
pub use Rattle.orch_core.specs.Runs
pub use Rattle.orch_core.specs.Settling
pub use Rattle.orch_core.specs.Starts
pub use Rattle.orch_core.specs.States
pub use Rattle.orch_core.specs.TurnExchanges
