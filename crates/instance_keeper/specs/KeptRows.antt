-- What is passed on of kept_rows: its types and definitions.
pub use Rattle.kept_rows.specs.declared
pub use Rattle.kept_rows.specs.Keeping
pub use Rattle.kept_rows.specs.Ranges
pub use Rattle.kept_rows.specs.Recoveries
pub use Rattle.kept_rows.specs.Rows
pub use Rattle.kept_rows.specs.Same
pub use Rattle.kept_rows.specs.Seeing
pub use Rattle.kept_rows.specs.Servers
pub use Rattle.kept_rows.specs.SortKeys
