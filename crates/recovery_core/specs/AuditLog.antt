-- What is passed on of audit_log: its types and definitions.
pub use Rattle.audit_log.specs.declared
pub use Rattle.audit_log.specs.Apart
pub use Rattle.audit_log.specs.Audits
pub use Rattle.audit_log.specs.Loading
