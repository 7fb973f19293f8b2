-- What is passed on of orch_base: lemmas that are cited above.
pub use Rattle.orch_base.proofs.Chains
pub use Rattle.orch_base.proofs.Found
pub use Rattle.orch_base.proofs.Lists
pub use Rattle.orch_base.proofs.Mapped
pub use Rattle.orch_base.proofs.NameLemmas
pub use Rattle.orch_base.proofs.Printed
pub use Rattle.orch_base.proofs.ReadNames
pub use Rattle.orch_base.proofs.RoundTrip
pub use Rattle.orch_base.proofs.SameNames
