-- When a world is safe: each replica has executed a prefix of its source's transactions, and is at that prefix's end.
-- Also what holds even if a world isn't safe: each replica is in its source's log.
use Rattle.std.specs.Prelude.{◌≡◌, ℕ, ◌+◌, true, List, length, take, Some, slice_get}
use Rattle.server_model.specs.Prelude.{Txn, count_own, is_at_or_before, place, same_txn}
use Rattle.server_model.specs.Layout.{LaysOut}
use Rattle.server_model.specs.Worlds.{World, server_at, histories, sources, source_no, KeepsFrom}
use Rattle.server_model.specs.declared.server.Server.{Server}
pub use Rattle.server_words.specs.OrchBase.Chains.{Grounded, Root, Under}

-- A replica fits its source: what it executed is a prefix of what the source executed. Its executed coordinate is the
-- end of that prefix, and what it has read is not before it.
pub record AttachedWell (r s : Server) : Type 0 where
  pub prefix : take (length r.history.txns) s.history.txns ≡ r.history.txns
  pub exec_place : place s.log.log r.exec ≡ Some (length r.history.txns)
  pub read_place : (k : ℕ) × (place s.log.log r.read ≡ Some k)
  pub order : is_at_or_before r.exec r.read ≡ true

-- Histories agree: they are equal up to and including each transaction that they share.
pub record IsKin (h : ℕ → List Txn) : Type 0 where
  -- if two histories have the same transaction, they are equal up to and including it
  pub alike : (a b i j : ℕ) (x y : Txn) → slice_get (h a) i ≡ Some x → slice_get (h b) j ≡ Some y → same_txn x y ≡ true → take (i + 1) (h a) ≡ take (j + 1) (h b)
  -- the numbers of one origin are 1, 2, 3 and so on, in order
  pub numbered : (a i : ℕ) (x : Txn) → slice_get (h a) i ≡ Some x → x.seq ≡ count_own x.origin.0 (take i (h a)) + 1
  -- a transaction is in its origin's history
  pub home : (a i : ℕ) (x : Txn) → slice_get (h a) i ≡ Some x → (j : ℕ) × (slice_get (h x.origin.0) j ≡ Some x)

-- a source's server is there and logs
abbrev pub IsSource : World → ℕ → Type 0
IsSource w m = (s : Server) × (server_at w m ≡ Some s) × (s.settings.logs ≡ true)

-- the servers' UUIDs differ
abbrev pub HaveOwnUuids : World → Type 0
HaveOwnUuids w = (m n : ℕ) (s t : Server) → server_at w m ≡ Some s → server_at w n ≡ Some t → s.settings.uuid ≡ t.settings.uuid → m ≡ n

-- the first kept file of each server is one of its log's; if it doesn't log that is 1, and the log is empty
abbrev pub KeepFiles : World → Type 0
KeepFiles w = (n : ℕ) (s : Server) → server_at w n ≡ Some s → KeepsFrom s.settings.logs s.log.log s.first

-- Every server with a source fits it (`AttachedWell`), all histories agree (`IsKin`), no server is below itself, and
-- every source logs. Every log lays out its server's history and keeps one of its files. The servers' UUIDs differ.
pub record Safe (w : World) : Type 0 where
  pub laid : (n : ℕ) (s : Server) → server_at w n ≡ Some s → s.settings.logs ≡ true → LaysOut s.history.txns s.log.log
  pub kept : KeepFiles w
  pub well : (n m : ℕ) (r s : Server) → server_at w n ≡ Some r → source_no r.source ≡ Some m → server_at w m ≡ Some s → AttachedWell r s
  pub logging : (n m : ℕ) (r : Server) → server_at w n ≡ Some r → source_no r.source ≡ Some m → IsSource w m
  pub kin : IsKin (histories w)
  pub grounded : (n : ℕ) → Grounded (sources w) n
  pub uuids : HaveOwnUuids w

-- The position of a replica in its source's log: both coordinates have places there, and the executed one isn't after
-- the read one.
pub record StandsIn (r s : Server) : Type 0 where
  pub exec_place : (k : ℕ) × (place s.log.log r.exec ≡ Some k)
  pub read_place : (k : ℕ) × (place s.log.log r.read ≡ Some k)
  pub order : is_at_or_before r.exec r.read ≡ true

-- What holds in every world of a run, whether clients wrote to replicas or not. Every server with a source is in the
-- log of its source. Every source is there and logs, and no server is below itself. Every log lays out its server's
-- history and keeps one of its files. The servers' UUIDs differ.
pub record Placed (w : World) : Type 0 where
  pub laid : (n : ℕ) (s : Server) → server_at w n ≡ Some s → s.settings.logs ≡ true → LaysOut s.history.txns s.log.log
  pub kept : KeepFiles w
  pub stands : (n m : ℕ) (r s : Server) → server_at w n ≡ Some r → source_no r.source ≡ Some m → server_at w m ≡ Some s → StandsIn r s
  pub logging : (n m : ℕ) (r : Server) → server_at w n ≡ Some r → source_no r.source ≡ Some m → IsSource w m
  pub grounded : (n : ℕ) → Grounded (sources w) n
  pub uuids : HaveOwnUuids w

-- no write was accepted by a server that had a source
abbrev pub IsQuiet : World → Type 0
IsQuiet w = w.errant ≡ 0
