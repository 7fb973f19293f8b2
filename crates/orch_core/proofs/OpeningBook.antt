-- What is passed on of opening_book: lemmas that are cited above.
pub use Rattle.opening_book.proofs.Following
pub use Rattle.opening_book.proofs.Recoveries
