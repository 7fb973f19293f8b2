-- What has to hold for servers so that they make a world.
use Rattle.std.specs.Prelude.{◌≡◌, ◌≢◌, ℕ, ◌≤◌, Bool, true, List, All, length, Some, slice_get}
use Rattle.server_model.specs.Fit.{IsFit}
use Rattle.server_model.specs.Gtids.{IsNumbered}
use Rattle.server_model.specs.Safe.{StandsIn}
use Rattle.server_model.specs.Worlds.{World, source_no}
use Rattle.server_model.specs.declared.server.Server.{Server}

-- One of so many servers: its numbers are in their ranges. Its log has as much room as its history. If it logs, it has
-- as many transactions, and each of these has a GTID.
pub record IsServer (servers : ℕ) (s : Server) : Type 0 where
  pub fit : IsFit s
  pub log_room : s.log.room ≡ s.history.room
  pub numbered : All (IsNumbered servers) s.history.txns
  pub logged : s.settings.logs ≡ true → length s.log.log.entries ≡ length s.history.txns

-- server m, the source of server n, is another one and logs; both coordinates of the replica have places in its log,
-- the executed one not after the read one
pub record IsSourceOf (servers : List Server) (n m : ℕ) (replica : Server) : Type 0 where
  pub source : Server
  pub there : slice_get servers m ≡ Some source
  pub apart : n ≢ m
  pub logs : source.settings.logs ≡ true
  pub stands : StandsIn replica source

-- at most 1,000 servers, with UUIDs of their own, each source among them
pub record CanStand (servers : List Server) : Type 0 where
  pub few : length servers ≤ 1000
  pub each : (n : ℕ) (s : Server) → slice_get servers n ≡ Some s → IsServer (length servers) s
  pub uuids : (m n : ℕ) (s t : Server) → slice_get servers m ≡ Some s → slice_get servers n ≡ Some t → s.settings.uuid ≡ t.settings.uuid → m ≡ n
  pub sources : (n m : ℕ) (r : Server) → slice_get servers n ≡ Some r → source_no r.source ≡ Some m → IsSourceOf servers n m r

-- the world of such servers, before any exchange
abbrev pub world_with : List Server → Bool → World
world_with servers gtid = record { servers = servers; gtid = gtid; errant = 0 }
