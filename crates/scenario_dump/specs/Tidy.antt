-- What holds for the servers of a run beside `Placed`, and `Safe` if no server with a source accepted a write. By it
-- they can be given as a scenario.
use Rattle.std.specs.Prelude.{◌≡◌, ℕ, ◌≤◌, ◌<◌, ◌^◌, true, false, List, [], if◌then◌else◌, All, IfSome, Some, None}
use Rattle.scenario_dump.specs.Prelude.{Coord, HasSize, Server, Without, World, file_start, opened, server_at, source_no}

-- a server without a source has nothing of a replica
pub record IsBare (s : Server) : Type 0 where
  pub exec : s.exec ≡ file_start 1
  pub read : s.read ≡ file_start 1
  pub auto : s.auto ≡ false
  pub receiver : s.receiver ≡ false
  pub applier : s.applier ≡ false
  pub until : s.until ≡ None

-- a coordinate that has a printed form
pub record IsWritten (c : Coord) : Type 0 where
  pub file : 1 ≤ c.file
  pub files : c.file < 2 ^ 32
  pub start : 4 ≤ c.pos
  pub pos : c.pos < 2 ^ 64

-- the position of a replicating server can be printed
pub record CanPrint (s : Server) : Type 0 where
  pub exec : IsWritten s.exec
  pub read : IsWritten s.read
  pub until : IfSome s.until IsWritten

-- the server of a number is there and of this cluster
pub record IsOf (w : World) (cluster : List ℕ) (n : ℕ) : Type 0 where
  pub server : Server
  pub there : server_at w n ≡ Some server
  pub same : server.settings.cluster ≡ cluster

-- what holds of one server
pub record IsTidyServer (w : World) (s : Server) : Type 0 where
  pub bare : s.source ≡ Without → IsBare s
  pub auto : s.auto ≡ true → w.gtid ≡ true
  pub printed : CanPrint s
  pub sizes : All HasSize s.history.txns
  -- its log has its settings' limit, and stays as it was opened if it doesn't log
  pub limit : s.log.log.limit ≡ s.settings.limit
  pub unlogged : s.settings.logs ≡ false → s.log.log ≡ opened s.settings.limit
  -- the log of a server that logs has its history, and that of another one nothing
  pub told : s.log.txns ≡ (if s.settings.logs then s.history.txns else [])
  -- it is of its source's cluster, and of that of the origins of its transactions
  pub source : (m : ℕ) → source_no s.source ≡ Some m → IsOf w s.settings.cluster m
  pub origins : All (λ t. IsOf w s.settings.cluster t.origin.0) s.history.txns

unfoldable pub IsTidy : World → Type 0
IsTidy w = (n : ℕ) (s : Server) → server_at w n ≡ Some s → IsTidyServer w s
