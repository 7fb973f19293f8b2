-- What is passed on of kept_rows: lemmas that are cited above.
pub use Rattle.kept_rows.proofs.Known
pub use Rattle.kept_rows.proofs.Lists
pub use Rattle.kept_rows.proofs.LookUps
pub use Rattle.kept_rows.proofs.Recoveries
pub use Rattle.kept_rows.proofs.Rising
pub use Rattle.kept_rows.proofs.Same
