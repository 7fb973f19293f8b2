-- Servers and the world of them.
use Rattle.std.specs.Prelude.{◌≡◌, ◌≤◌, ℕ, Bool, true, false, List, [], Option, Some, None, slice_get, slice_set}
use Rattle.server_model.specs.Prelude.{Attached, Detached, Log, SourceState, Txn, Without}
use Rattle.server_model.specs.declared.server.Server.{Server}
pub use Rattle.server_words.specs.OrchBase.Sources.{source_no}

-- the servers by their numbers, whether they use GTIDs, and how many writes a server with a source accepted
pub record World : Type 0 where
  pub servers : List Server
  pub gtid : Bool
  pub errant : ℕ

abbrev pub has_source : SourceState → Bool
has_source Without = false
has_source (Attached m) = true
has_source (Detached m) = true

abbrev pub server_at : World → ℕ → Option Server
server_at w n = slice_get w.servers n

abbrev pub history_of : Option Server → List Txn
history_of None = []
history_of (Some s) = s.history.txns

abbrev pub source_of : Option Server → Option ℕ
source_of None = None
source_of (Some s) = source_no s.source

-- the first kept file of a log is one of its files; if the server doesn't log it is 1, and the log is empty
pub record KeepsFrom (logs : Bool) (log : Log) (first : ℕ) : Type 0 where
  pub low : 1 ≤ first
  pub high : first ≤ log.files
  pub unlogged : logs ≡ false → (first ≡ 1) × (log.entries ≡ [])

-- the history of each server, and the server above it
abbrev pub histories : World → ℕ → List Txn
histories w n = history_of (server_at w n)

abbrev pub sources_in : List Server → ℕ → Option ℕ
sources_in servers n = source_of (slice_get servers n)

abbrev pub sources : World → ℕ → Option ℕ
sources w n = sources_in w.servers n

-- the world with another server n
abbrev pub with_server : World → ℕ → Server → World
with_server w n s = record { servers = slice_set w.servers n s; gtid = w.gtid; errant = w.errant }
