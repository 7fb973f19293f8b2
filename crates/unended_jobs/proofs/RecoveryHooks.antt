-- What is passed on of recovery_hooks: lemmas that are cited above.
pub use Rattle.recovery_hooks.proofs.Running
