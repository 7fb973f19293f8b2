pub mod Aliases
pub mod Blocks
pub mod Labels
pub mod ValidTurns
pub mod Scenarios
pub use Rattle.server_words.specs.BinlogCoords as BinlogCoords
pub mod Commands
pub use Rattle.server_words.specs.GtidSets as GtidSets
pub mod HookTexts
pub mod Openings
pub use Rattle.server_words.specs.OrchBase as OrchBase
pub mod ServerWords
pub mod Turns
