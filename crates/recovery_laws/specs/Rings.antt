-- The bridges that a book keeps, as recoveries go by them.
use Rattle.std.specs.Prelude.{◌≡◌, List, All}
use Rattle.recovery_laws.specs.Prelude.{Bridge, ServerNo, Spans, StandsIn, World, ring_at}

-- a server's ring has bridges of that server
abbrev pub AreOwn : List (List Bridge) → Type 0
AreOwn rings = (n : ServerNo) → All (λ b. b.no.0 ≡ n.0) (ring_at rings n)

-- both ends of each bridge have places, and it is in its server's ring
pub record HeldRings (w : World) (rings : List (List Bridge)) : Type 0 where
  pub spans : All (All (Spans w)) rings
  pub own : AreOwn rings

-- in a world without errant writes each bridge is right
abbrev pub SoundRings : World → List (List Bridge) → Type 0
SoundRings w rings = All (All (StandsIn w)) rings
