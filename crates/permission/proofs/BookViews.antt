-- What is passed on of book_views: lemmas that are cited above.
pub use Rattle.book_views.proofs.Nodes
pub use Rattle.book_views.proofs.Reading
