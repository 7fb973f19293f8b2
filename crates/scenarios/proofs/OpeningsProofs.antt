-- What is passed on of openings: lemmas that are cited above.
pub use Rattle.openings.proofs.Agreements
pub use Rattle.openings.proofs.Chains
pub use Rattle.openings.proofs.Files
pub use Rattle.openings.proofs.Fronts
pub use Rattle.openings.proofs.Joined
pub use Rattle.openings.proofs.Laid
pub use Rattle.openings.proofs.ListedCounts
pub use Rattle.openings.proofs.Members
pub use Rattle.openings.proofs.Roots
pub use Rattle.openings.proofs.Sizes
pub use Rattle.openings.proofs.Soundness
