-- Bridges: a replica's own end and its executed coordinate that are one point of two logs.
use Rattle.std.specs.Prelude.{◌≡◌, ℕ, ◌≤◌, true, length, take, Some}
use Rattle.server_model.specs.Prelude.{Coord, place}
use Rattle.server_model.specs.Worlds.{World, server_at}
use Rattle.server_model.specs.declared.server.Server.{Server}

-- A coordinate of x and one of s have one place, up to which the two have executed the same transactions; both log.
pub record Bridges (x s : Server) (own exec : Coord) : Type 0 where
  pub count : ℕ
  pub own_place : place x.log.log own ≡ Some count
  pub exec_place : place s.log.log exec ≡ Some count
  pub own_within : count ≤ length x.history.txns
  pub exec_within : count ≤ length s.history.txns
  pub alike : take count x.history.txns ≡ take count s.history.txns
  pub own_logs : x.settings.logs ≡ true
  pub exec_logs : s.settings.logs ≡ true

-- a right bridge, of server x under server s
pub record Stands (w : World) (x s : ℕ) (own exec : Coord) : Type 0 where
  pub replica : Server
  pub source : Server
  pub replica_at : server_at w x ≡ Some replica
  pub source_at : server_at w s ≡ Some source
  pub bridges : Bridges replica source own exec
