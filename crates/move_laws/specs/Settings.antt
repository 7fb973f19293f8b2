-- Worlds that differ only in their servers' states.
use Rattle.std.specs.Prelude.{◌≡◌, ℕ, option_map}
use Rattle.move_laws.specs.Prelude.{World, server_at}

-- the same servers are there, with the same settings, and both worlds use GTIDs or neither does
pub record SameSettings (w v : World) : Type 0 where
  pub gtid : w.gtid ≡ v.gtid
  pub settings : (n : ℕ) → option_map (λ s. s.settings) (server_at w n) ≡ option_map (λ s. s.settings) (server_at v n)
