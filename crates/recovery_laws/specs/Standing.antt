-- The states of servers.
use Rattle.std.specs.Prelude.{◌≡◌, ℕ, Bool, true, false, List, Option, Some, None}
use Rattle.recovery_laws.specs.Prelude.{Exchange, Server, ServerNo, Sight, Way, World, seen_of, server_at, source_shown}
use Rattle.recovery_plans.specs.OrchBase.declared.server.SourceState.{SourceState}
use Rattle.recovery_plans.specs.OrchBase.declared.server.SourceState.TheVariants.{Without, Attached, Detached}
use Rattle.recovery_plans.specs.ServerModel.Desk.{is_detached}
use Rattle.recovery_plans.specs.ServerModel.Run.{Write, Fetch, Apply, Request, Befall, Rotate, Attach, AttachAuto, Purge}
use Rattle.recovery_plans.specs.ServerModel.Worlds.{has_source}
use Rattle.recovery_plans.specs.Operations.declared.sight.Position.{Position}
use Rattle.recovery_plans.specs.declared.task.Way.TheVariants as way

-- the server to which a server is attached
abbrev pub attached_no : SourceState → Option ℕ
attached_no Without = None
attached_no (Attached m) = Some m.0
attached_no (Detached m) = None

-- a server is there and attached to another
pub record IsUnder (w : World) (n m : ℕ) : Type 0 where
  pub server : Server
  pub there : server_at w n ≡ Some server
  pub under : attached_no server.source ≡ Some m

-- it has a source
pub record IsSourced (w : World) (n : ℕ) : Type 0 where
  pub server : Server
  pub there : server_at w n ≡ Some server
  pub sourced : has_source server.source ≡ true

-- it is detached from its source
pub record IsApart (w : World) (n : ℕ) : Type 0 where
  pub server : Server
  pub there : server_at w n ≡ Some server
  pub apart : is_detached server.source ≡ true

-- it has no source
pub record IsFree (w : World) (n : ℕ) : Type 0 where
  pub server : Server
  pub there : server_at w n ≡ Some server
  pub free : server.source ≡ Without

-- it takes writes
pub record IsWritable (w : World) (n : ℕ) : Type 0 where
  pub server : Server
  pub there : server_at w n ≡ Some server
  pub writable : server.read_only ≡ false

-- it has no source and takes writes
pub record IsRuling (w : World) (n : ℕ) : Type 0 where
  pub free : IsFree w n
  pub writable : IsWritable w n

-- a server that is there in the first world has the same source in the second
pub record KeepsSource (w w' : World) (n : ℕ) : Type 0 where
  pub keeps : (s : Server) → server_at w n ≡ Some s → (t : Server) × (server_at w' n ≡ Some t) × (t.source ≡ s.source)

-- and takes writes as before
pub record Stays (w w' : World) (n : ℕ) : Type 0 where
  pub stays : (s : Server) → server_at w n ≡ Some s → (t : Server) × (server_at w' n ≡ Some t) × (t.source ≡ s.source) × (t.read_only ≡ s.read_only)

-- if a server was seen with a source, it has one
abbrev pub IsSourcedAsSeen : World → List Sight → ServerNo → Type 0
IsSourcedAsSeen w seen n = (s : Position) → seen_of seen n.0 ≡ Some s → has_source s.source ≡ true → IsSourced w n.0

-- the reading of a bridge's server has the bridge's source, if that is the new source
abbrev pub Reads : List Sight → Way → Type 0
Reads seen (way.Down b) = Unit {0}
Reads seen (way.Up b) = source_shown (seen_of seen b.no.0) ≡ Some b.source.0
Reads seen (way.Auto to exec) = Unit {0}
Reads seen (way.Match to exec every) = Unit {0}

-- what isn't orchestrator's: writes, steps of replication, what happens to a server, a new file of a log, a purge
abbrev pub is_outside : Exchange → Bool
is_outside (Write n size) = true
is_outside (Fetch n) = true
is_outside (Apply n) = true
is_outside (Befall n e) = true
is_outside (Rotate n) = true
is_outside (Purge n file) = true
is_outside (Request n a) = false
is_outside (Attach n expect to at) = false
is_outside (AttachAuto n observed to) = false
