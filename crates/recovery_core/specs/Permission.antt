-- What is passed on of permission: its types and definitions.
pub use Rattle.permission.specs.declared
pub use Rattle.permission.specs.Candidates
pub use Rattle.permission.specs.Checks
pub use Rattle.permission.specs.Errants
pub use Rattle.permission.specs.Lists
pub use Rattle.permission.specs.Replicas
pub use Rattle.permission.specs.Rows
pub use Rattle.permission.specs.Views
