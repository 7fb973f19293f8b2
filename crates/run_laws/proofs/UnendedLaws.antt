-- What is passed on of unended_laws: lemmas that are cited above.
pub use Rattle.unended_laws.proofs.Checking
pub use Rattle.unended_laws.proofs.CoveredBeside
pub use Rattle.unended_laws.proofs.CoveredTurning
pub use Rattle.unended_laws.proofs.Ending
pub use Rattle.unended_laws.proofs.Lasting
pub use Rattle.unended_laws.proofs.Staying
pub use Rattle.unended_laws.proofs.Telling
pub use Rattle.unended_laws.proofs.UpTurns
