-- What is passed on of gtid_sets: its types and definitions.
pub use Rattle.gtid_sets.specs.declared
pub use Rattle.gtid_sets.specs.Adding
pub use Rattle.gtid_sets.specs.Gives
pub use Rattle.gtid_sets.specs.Grammar
pub use Rattle.gtid_sets.specs.Pairs
pub use Rattle.gtid_sets.specs.Printed
pub use Rattle.gtid_sets.specs.Reserved
pub use Rattle.gtid_sets.specs.ReservedBy
pub use Rattle.gtid_sets.specs.Sets
