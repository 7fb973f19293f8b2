-- Sets that were observed of a server.
use Rattle.std.specs.Prelude.{◌≡◌, ℕ, true, List, Some}
use Rattle.server_model.specs.Prelude.{Interval, holds}
use Rattle.server_model.specs.declared.server.Server.{Server}
use Rattle.server_model.specs.Gtids.{executed_set}
use Rattle.server_model.specs.Worlds.{World, server_at}

-- the server is there, and has executed what the set has
pub record HasExecuted (w : World) (n : ℕ) (set : List Interval) : Type 0 where
  pub server : Server
  pub there : server_at w n ≡ Some server
  pub within : (uuid k : ℕ) → holds set uuid k ≡ true → holds (executed_set w server) uuid k ≡ true
