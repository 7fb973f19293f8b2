-- What is passed on of server_model: lemmas that are cited above.
pub use Rattle.server_model.proofs.Applied
pub use Rattle.server_model.proofs.Counts
pub use Rattle.server_model.proofs.ExecutedSets
pub use Rattle.server_model.proofs.Lists
pub use Rattle.server_model.proofs.LogSizes
pub use Rattle.server_model.proofs.Sources
