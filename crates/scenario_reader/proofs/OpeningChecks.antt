-- What is passed on of opening_checks: lemmas that are cited above.
pub use Rattle.opening_checks.proofs.Flawed
pub use Rattle.opening_checks.proofs.ListTests
