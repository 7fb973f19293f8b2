-- How servers go on from one world to a later one.
use Rattle.std.specs.Prelude.{◌≡◌, ◌≤◌, ℕ, length, take, Some}
use Rattle.replication_laws.specs.Prelude.{Coord, Server, World, place, server_at}

-- A server that goes on: its settings stay, and what it had executed is a prefix of what it has executed now. Each
-- place of its log stays, and what is purged of it stays purged.
pub record GoesOn (s s' : Server) : Type 0 where
  pub settings : s'.settings ≡ s.settings
  pub prefix : take (length s.history.txns) s'.history.txns ≡ s.history.txns
  pub places : (c : Coord) (k : ℕ) → place s.log.log c ≡ Some k → place s'.log.log c ≡ Some k
  pub first : s.first ≤ s'.first

-- each server of a world goes on in another
abbrev pub Grows : World → World → Type 0
Grows w w' = (n : ℕ) (s : Server) → server_at w n ≡ Some s → (s' : Server) × (server_at w' n ≡ Some s') × GoesOn s s'
