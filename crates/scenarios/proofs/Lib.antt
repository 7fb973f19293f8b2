mod Prelude
pub mod Places
pub mod Rooms
pub mod SameTexts
pub use Rattle.server_words.proofs.BinlogCoords as BinlogCoords
pub mod CommandsProofs
pub mod OpeningsProofs
pub use Rattle.server_words.proofs.OrchBase as OrchBase
