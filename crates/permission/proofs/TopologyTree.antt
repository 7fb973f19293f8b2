-- What is passed on of topology_tree: lemmas that are cited above.
pub use Rattle.topology_tree.proofs.Computed
