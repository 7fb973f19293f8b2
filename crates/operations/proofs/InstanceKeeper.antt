-- What is passed on of instance_keeper: lemmas that are cited above.
pub use Rattle.instance_keeper.proofs.BookLaws
pub use Rattle.instance_keeper.proofs.Books
pub use Rattle.instance_keeper.proofs.Cleared
pub use Rattle.instance_keeper.proofs.NoRecovery
pub use Rattle.instance_keeper.proofs.Renewal
