use Rattle.std.specs.Prelude.{ℕ, Option}
pub use Rattle.orch_base.specs.Chains.{Follows, Direct, Further, Grounded, Root, Under}

-- a node comes back to itself by following
abbrev pub ComesBack : (ℕ → Option ℕ) → ℕ → Type 0
ComesBack up n = Follows up n n
