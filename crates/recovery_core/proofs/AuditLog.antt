-- What is passed on of audit_log: lemmas that are cited above.
pub use Rattle.audit_log.proofs.Changes
pub use Rattle.audit_log.proofs.Finding
pub use Rattle.audit_log.proofs.Kept
pub use Rattle.audit_log.proofs.Loaded
pub use Rattle.audit_log.proofs.Parting
