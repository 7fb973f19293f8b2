-- What is passed on of node_claims: its types and definitions.
pub use Rattle.node_claims.specs.declared
pub use Rattle.node_claims.specs.Claims
pub use Rattle.node_claims.specs.Reached
