-- Who is below whom, by attached and detached sources, and when an attachment comes to ask that.
use Rattle.std.specs.Prelude.{◌≡◌, ℕ, true, false, ◌&&◌, ◌||◌, Some}
use Rattle.replication_laws.specs.Prelude.{Server, Spot, World, live_spot, same_spot, server_at}
-- the chain of sources from a server comes to another: it is that one, or below it
pub use Rattle.server_words.specs.OrchBase.Chains.{Reaches, Here, Up}

-- The server is there, within orchestrator's reach, with its threads off, and at the expected position. Only a loop can
-- still refuse an attachment.
pub record IsReadyAt (w : World) (n : ℕ) (expect : Spot) : Type 0 where
  pub server : Server
  pub there : server_at w n ≡ Some server
  pub reached : (server.up && server.desk) ≡ true
  pub still : (server.receiver || server.applier) ≡ false
  pub expected : same_spot expect (live_spot server expect) ≡ true

-- the server is there, within orchestrator's reach, with its threads off: of all that an attachment by a set asks only
-- a loop and the sets are left
pub record IsReadyAuto (w : World) (n : ℕ) : Type 0 where
  pub server : Server
  pub there : server_at w n ≡ Some server
  pub reached : (server.up && server.desk) ≡ true
  pub still : (server.receiver || server.applier) ≡ false
