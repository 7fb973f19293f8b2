-- What holds of a server that is there.
use Rattle.std.specs.Prelude.{◌≡◌, ℕ, true, Some, None}
use Rattle.unended_laws.specs.Prelude.{Server, World, server_at}

-- a server is there, and this holds of it
pub record IsThere (S : Server → Type 0) (w : World) (n : ℕ) : Type 0 where
  pub server : Server
  pub there : server_at w n ≡ Some server
  pub is : S server

-- its applier is on, and isn't to stop at a coordinate
abbrev pub Applies : Server → Type 0
Applies s = (s.applier ≡ true) × (s.until ≡ None)

abbrev pub IsApplying : World → ℕ → Type 0
IsApplying w n = IsThere Applies w n
