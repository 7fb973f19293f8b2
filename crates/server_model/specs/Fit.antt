-- What holds of the servers in the code, so that each exchange goes without a search: numbers in their ranges, and
-- places in the logs of sources.
use Rattle.std.specs.Prelude.{◌≡◌, ℕ, ◌+◌, ◌<◌, ◌≤◌, true, List, [], ◌∷◌, length, sum_by, All, Some, slice_get}
use Rattle.server_model.specs.Prelude.{Grown, Txn, count_own, has_place}
use Rattle.server_model.specs.Worlds.{source_no, KeepsFrom}
use Rattle.server_model.specs.declared.server.Server.{Server}

abbrev pub HasSize : Txn → Type 0
HasSize t = (0 < t.size) × (t.size ≤ 1000000)

-- a server's numbers are in their ranges, and its log has as much room as its history
pub record IsFit (s : Server) : Type 0 where
  pub high : s.history.room ≤ 4000000
  pub room : s.history.room ≤ s.log.room
  pub within : length s.history.txns ≤ s.history.room
  pub entries : length s.log.log.entries ≤ length s.history.txns
  pub sizes : All HasSize s.history.txns
  pub grown : Grown s.log.log
  pub files : s.log.log.files + s.log.flushes ≤ 4000001 + length s.log.log.entries
  pub kept : KeepsFrom s.settings.logs s.log.log s.first

-- both coordinates of r have places in the log of s, its source
pub record HasPlaces (r s : Server) : Type 0 where
  pub exec : has_place s.log.log r.exec ≡ true
  pub read : has_place s.log.log r.read ≡ true

-- the servers, and the count of errant writes
pub record IsKept (servers : List Server) (errant : ℕ) : Type 0 where
  pub few : length servers ≤ 1000
  pub errant_few : errant ≤ sum_by (λ s. length s.history.txns) servers
  pub fit : (n : ℕ) (s : Server) → slice_get servers n ≡ Some s → IsFit s
  pub apart : (n : ℕ) (s : Server) → slice_get servers n ≡ Some s → source_no s.source ≡ Some n → ⊥
  pub places : (n m : ℕ) (r s : Server) → slice_get servers n ≡ Some r → source_no r.source ≡ Some m →
      slice_get servers m ≡ Some s → HasPlaces r s

-- how many transactions of its own each server has executed, numbered from n
abbrev pub own_from : ℕ → List Server → List ℕ
own_from n [] = []
own_from n (s ∷ ss) = count_own n s.history.txns ∷ own_from (n + 1) ss

abbrev pub own_counts : List Server → List ℕ
own_counts servers = own_from 0 servers
