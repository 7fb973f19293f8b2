-- What is passed on of instance_keeper: its types and definitions.
pub use Rattle.instance_keeper.specs.declared
pub use Rattle.instance_keeper.specs.Book
pub use Rattle.instance_keeper.specs.Bridges
pub use Rattle.instance_keeper.specs.Counts
pub use Rattle.instance_keeper.specs.Had
pub use Rattle.instance_keeper.specs.Leases
pub use Rattle.instance_keeper.specs.Reloads
pub use Rattle.instance_keeper.specs.ServerLists
