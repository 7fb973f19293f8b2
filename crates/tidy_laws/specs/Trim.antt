-- What every exchange keeps of a server, as long as it goes by clusters and coordinates that are in order.
use Rattle.std.specs.Prelude.{◌≡◌, ℕ, ◌+◌, ◌≤◌, ◌<◌, Bool, true, false, List, [], ◌∷◌, if◌then◌else◌, length, All, IfSome, Option, Some, None}
use Rattle.tidy_laws.specs.Prelude.{Apply, Ask, Attach, AttachAuto, Befall, Coord, Exchange, Fetch, HasSize, Index, IsWritten, Kept, Purge, Request}
use Rattle.tidy_laws.specs.Prelude.{Rotate, Server, Settings, SourceState, Spot, Without, World, Write, after, file_start, live_spot, opened}
use Rattle.tidy_laws.specs.Prelude.{same_spot, server_at, source_no}
use Rattle.tidy_laws.specs.Prelude.asking
use Rattle.tidy_laws.specs.Clusters.{AreAlike, Clusters, cluster_at}

-- of server n, what it has executed and its log: numbers in their ranges, the settings' limit, and origins of its
-- cluster
pub record HasOwn (c : Clusters) (n : ℕ) (settings : Settings) (history : Kept) (log : Index) : Type 0 where
  pub cluster : c n ≡ Some settings.cluster
  pub high : history.room ≤ 4000000
  pub within : length history.txns ≤ history.room
  pub entries : length log.log.entries ≤ length history.txns
  pub sizes : All HasSize history.txns
  pub files : log.log.files + log.flushes ≤ 4000001 + length log.log.entries
  pub limit : log.log.limit ≡ settings.limit
  pub unlogged : settings.logs ≡ false → log.log ≡ opened settings.limit
  pub told : log.txns ≡ (if settings.logs then history.txns else [])
  pub origins : All (λ t. c t.origin.0 ≡ c n) history.txns

-- nothing of a replica
pub record HasNone (done far : Coord) (finds receives applies : Bool) (stop : Option Coord) : Type 0 where
  pub exec : done ≡ file_start 1
  pub read : far ≡ file_start 1
  pub auto : finds ≡ false
  pub receiver : receives ≡ false
  pub applier : applies ≡ false
  pub until : stop ≡ None

-- of server n, how it replicates: nothing is left of a replica if it has no source, and its source is of its cluster
pub record Replicates (c : Clusters) (gtid : Bool) (n : ℕ) (above : SourceState) (done far : Coord) (finds receives applies : Bool) (stop : Option Coord) : Type 0 where
  pub bare : above ≡ Without → HasNone done far finds receives applies stop
  pub auto : finds ≡ true → gtid ≡ true
  pub until : IfSome stop IsWritten
  pub source : (m : ℕ) → source_no above ≡ Some m → c m ≡ c n

abbrev pub HasOwnOf : Clusters → ℕ → Server → Type 0
HasOwnOf c n s = HasOwn c n s.settings s.history s.log

abbrev pub ReplicatesOf : Clusters → Bool → ℕ → Server → Type 0
ReplicatesOf c gtid n s = Replicates c gtid n s.source s.exec s.read s.auto s.receiver s.applier s.until

-- the servers of a world, which are of these clusters
pub record IsTrim (c : Clusters) (w : World) : Type 0 where
  pub clusters : (n : ℕ) → cluster_at w n ≡ c n
  pub own : (n : ℕ) (s : Server) → server_at w n ≡ Some s → HasOwnOf c n s
  pub replicates : (n : ℕ) (s : Server) → server_at w n ≡ Some s → ReplicatesOf c w.gtid n s

-- ---- exchanges in order

abbrev pub IsOrderlyAsk : Ask → Type 0
IsOrderlyAsk (asking.StartUntil to) = IsWritten to
IsOrderlyAsk (asking.Stop which) = Unit {0}
IsOrderlyAsk asking.Start = Unit {0}
IsOrderlyAsk asking.Detach = Unit {0}
IsOrderlyAsk asking.Reattach = Unit {0}
IsOrderlyAsk asking.Reset = Unit {0}
IsOrderlyAsk (asking.SetReadOnly on) = Unit {0}

-- an attachment at a position: of a server that is there the new source is of its cluster
abbrev pub StaysWithin : Clusters → World → ℕ → Spot → ℕ → Type 0
StaysWithin c w n expect to = (r : Server) → server_at w n ≡ Some r → same_spot expect (live_spot r expect) ≡ true → AreAlike c to n

-- a transaction has a size in its range, a start goes up to a coordinate that can be printed, and a new source is of
-- the server's cluster
abbrev pub IsOrderly : Clusters → World → Exchange → Type 0
IsOrderly c w (Write n size) = (0 < size) × (size ≤ 1000000)
IsOrderly c w (Fetch n) = Unit {0}
IsOrderly c w (Apply n) = Unit {0}
IsOrderly c w (Request n a) = IsOrderlyAsk a
IsOrderly c w (Befall n e) = Unit {0}
IsOrderly c w (Rotate n) = Unit {0}
IsOrderly c w (Purge n file) = Unit {0}
IsOrderly c w (Attach n expect to at) = StaysWithin c w n expect to.0
IsOrderly c w (AttachAuto n observed to) = (w.gtid ≡ true) × AreAlike c to.0 n

abbrev pub AllOrderly : Clusters → World → List Exchange → Type 0
AllOrderly c w [] = Unit {0}
AllOrderly c w (e ∷ es) = IsOrderly c w e × AllOrderly c (after w e) es
