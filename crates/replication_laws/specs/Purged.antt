-- Purged files: who reads a log, what a receiver does that is to read a purged file, and what is read of a log.
use Rattle.std.specs.Prelude.{◌≡◌, ℕ, ◌<◌, ◌≤◌, true, false, length, Some, slice_get}
use Rattle.replication_laws.specs.Prelude.{Attached, Entry, Server, ServerNo, Txn, World, server_at, with_server}

-- an active replica of a server: it is up and attached to it, and its receiver is on and reaches it
pub record IsActive (no : ServerNo) (r : Server) : Type 0 where
  pub up : r.up ≡ true
  pub attached : r.source ≡ Attached no
  pub receiver : r.receiver ≡ true
  pub feed : r.feed ≡ true

-- The receiver of a server is to read a file that its source has purged. The source keeps its log from this file on. In
-- the later world the receiver is off, and all else is as it was.
pub record IsRefused (w : World) (n first : ℕ) (later : World) : Type 0 where
  pub replica : Server
  pub no : ServerNo
  pub source : Server
  pub there : server_at w n ≡ Some replica
  pub attached : replica.source ≡ Attached no
  pub source_there : server_at w no.0 ≡ Some source
  pub kept : source.first ≡ first
  pub purged : replica.read.file < first
  pub left : later ≡ with_server w n (record replica { receiver = false })

-- server n logs, and its k-th transaction, from 0, is this one and is in a file that its log keeps
pub record IsLogged (w : World) (n k : ℕ) (t : Txn) : Type 0 where
  pub server : Server
  pub there : server_at w n ≡ Some server
  pub logs : server.settings.logs ≡ true
  pub is : slice_get server.history.txns k ≡ Some t
  pub entry : Entry
  pub at : slice_get server.log.log.entries k ≡ Some entry
  pub kept : server.first ≤ entry.file

-- why a server's log has nothing to read at an index: it doesn't log, its history ends before it, or the transaction's
-- file is purged
pub data IsGone (s : Server) (k : ℕ) : Type 0 where
  Unlogged : s.settings.logs ≡ false → IsGone s k
  Beyond : length s.history.txns ≤ k → IsGone s k
  InPurged : (entry : Entry) → slice_get s.log.log.entries k ≡ Some entry → entry.file < s.first → IsGone s k
