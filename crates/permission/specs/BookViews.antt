-- What is passed on of book_views: its types and definitions.
pub use Rattle.book_views.specs.Forests
pub use Rattle.book_views.specs.Sources
