-- What is passed on of orch_core: lemmas that are cited above.
pub use Rattle.orch_core.proofs.Comes
pub use Rattle.orch_core.proofs.Finishing
pub use Rattle.orch_core.proofs.Starts
