-- What is passed on of topology_tree: its types and definitions.
pub use Rattle.topology_tree.specs.Following
pub use Rattle.topology_tree.specs.Forests
pub use Rattle.topology_tree.specs.Links
pub use Rattle.topology_tree.specs.LinksBy
pub use Rattle.topology_tree.specs.Making
pub use Rattle.topology_tree.specs.Marks
pub use Rattle.topology_tree.specs.Trees
