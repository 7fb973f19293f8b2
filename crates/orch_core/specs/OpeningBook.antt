-- What is passed on of opening_book: its types and definitions.
pub use Rattle.opening_book.specs.Audits
pub use Rattle.opening_book.specs.Counting
pub use Rattle.opening_book.specs.Following
pub use Rattle.opening_book.specs.Opening
pub use Rattle.opening_book.specs.Reads
