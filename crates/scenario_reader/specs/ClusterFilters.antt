-- What is passed on of cluster_filters: its types and definitions.
pub use Rattle.cluster_filters.specs.Faults
pub use Rattle.cluster_filters.specs.Forms
pub use Rattle.cluster_filters.specs.Patterns
