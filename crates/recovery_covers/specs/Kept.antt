-- What a promoted server has of the failed one's history.
use Rattle.std.specs.Prelude.{◌≡◌, ℕ, ◌≤◌, length, take, Some, All}
use Rattle.recovery_covers.specs.Prelude.{Recovery, ServerNo, World}
use Rattle.recovery_laws.specs.BinlogCoords.declared.Coord.{Coord}
use Rattle.recovery_laws.specs.BinlogCoords.Log.{place}
use Rattle.recovery_laws.specs.ServerModel.declared.server.Server.{Server}
use Rattle.recovery_laws.specs.ServerModel.Worlds.{server_at}

-- What a replica of f had when it was at this coordinate of f's log is a prefix of what n has executed. It had the
-- first transactions of f up to there.
pub record Keeps (w : World) (f : ℕ) (at : Coord) (n : ℕ) : Type 0 where
  pub source : Server
  pub server : Server
  pub source_at : server_at w f ≡ Some source
  pub server_at_n : server_at w n ≡ Some server
  pub count : ℕ
  pub place_at : place source.log.log at ≡ Some count
  pub within : count ≤ length server.history.txns
  pub source_within : count ≤ length source.history.txns
  pub alike : take count server.history.txns ≡ take count source.history.txns

-- the chosen one has what each that might have been chosen had when it was drained
abbrev pub KeptByChosen : World → Recovery → Type 0
KeptByChosen w r = (p : ServerNo) → r.chosen ≡ Some p → All (λ s. Keeps w r.failed.0 s.exec p.0) r.eligible

-- what the first server has executed is a prefix of what the second has
pub record IsBeginning (w : World) (n m : ℕ) : Type 0 where
  pub first : Server
  pub second : Server
  pub first_at : server_at w n ≡ Some first
  pub second_at : server_at w m ≡ Some second
  pub prefix : take (length first.history.txns) second.history.txns ≡ first.history.txns

-- what no turn changes
pub record SameAim (r r' : Recovery) : Type 0 where
  pub purpose : r'.purpose ≡ r.purpose
  pub failed : r'.failed ≡ r.failed
  pub replicas : r'.replicas ≡ r.replicas
  pub order : r'.order ≡ r.order
