-- What is passed on of permission: lemmas that are cited above.
pub use Rattle.permission.proofs.Free
pub use Rattle.permission.proofs.Rows
pub use Rattle.permission.proofs.Within
