-- Checks of the permission table, the codes of an analysis and block periods, as the tables have them.
use Rattle.std.specs.Prelude.{◌≡◌, ◌<◌, ◌⊎◌, ◌==◌, ℕ, Bool, true, false, not, All, Contains, List, [], ◌∷◌, ◌++◌, filter, map, None, Some}
use Rattle.run_laws.specs.Prelude.{AreCounts, Attached, Block, BookState, Case, Check, Code, Counts, Detached, Instance, Move, Refusal, Server, ServerNo, SourceState, Version, World}
use Rattle.run_laws.specs.Prelude.{CoordsCommand, GtidCommand, MatchCommand, PathCommand, check_number, coords_row, gtid_row, match_last, match_row}
use Rattle.run_laws.specs.Prelude.{path_last, path_row, takeover_row}
use Rattle.run_laws.specs.Prelude.{code_of, instance_at, lease_at, period_in, refusal_in, server_at}
use Rattle.run_laws.specs.Prelude.check
use Rattle.run_laws.specs.Prelude.code
use Rattle.run_laws.specs.Prelude.coords_kind
use Rattle.run_laws.specs.Prelude.gtid_kind
use Rattle.run_laws.specs.Prelude.gtid_plans
use Rattle.run_laws.specs.Prelude.match_kind
use Rattle.run_laws.specs.Prelude.op
use Rattle.run_laws.specs.Prelude.path_kind
use Rattle.run_laws.specs.Prelude.refusal

-- ---- checks

-- the two servers of a move are so to each other
abbrev pub AreBoth : (Server → Server → Type 0) → World → Move → Type 0
AreBoth Q w m = (s t : Server) → server_at w m.no.0 ≡ Some s → server_at w m.source.0 ≡ Some t → Q s t

-- a check over moves passes only if none is so, and else it names the server of one that is
pub record RefusesMoves (Q : Server → Server → Type 0) (w : World) (b : BookState) (c : Case) (k : Check) (of : ServerNo → Refusal) : Type 0 where
  pub passes : refusal_in w b c k ≡ None → (m : Move) → Contains c.moves m → AreBoth (λ s t. Q s t → ⊥) w m
  pub refuses : (r : Refusal) → refusal_in w b c k ≡ Some r → (m : Move) × Contains c.moves m × (r ≡ of m.no) × AreBoth Q w m

-- one over servers passes only if each is so, and else it names one that isn't
pub record RefusesServers (Q : ServerNo → Type 0) (w : World) (b : BookState) (c : Case) (k : Check) (ns : List ServerNo) (of : ServerNo → Refusal) : Type 0 where
  pub passes : refusal_in w b c k ≡ None → (n : ServerNo) → Contains ns n → Q n
  pub refuses : (r : Refusal) → refusal_in w b c k ≡ Some r → (n : ServerNo) × Contains ns n × (r ≡ of n) × (Q n → ⊥)

-- by major and minor
abbrev pub IsLower : Version → Version → Type 0
IsLower a b = (a.major < b.major) ⊎ ((a.major ≡ b.major) × (a.minor < b.minor))

-- it is there and writes a binary log
pub record Logs (w : World) (n : ServerNo) : Type 0 where
  pub server : Server
  pub there : server_at w n.0 ≡ Some server
  pub logs : server.settings.logs ≡ true

-- the book has it, and its last reading reached it
pub record WasReached (b : BookState) (n : ServerNo) : Type 0 where
  pub instance : Instance
  pub there : instance_at b n ≡ Some instance
  pub valid : instance.valid ≡ true

-- no job has a lease that is needed; else the check names the server and the job that has it
pub record RefusesLeased (w : World) (b : BookState) (c : Case) : Type 0 where
  pub passes : refusal_in w b c check.Busy ≡ None → (n : ServerNo) → Contains c.leased n → lease_at b n ≡ None
  pub refuses : (r : Refusal) → refusal_in w b c check.Busy ≡ Some r → (n : ServerNo) × (job : ℕ) × Contains c.leased n × (lease_at b n ≡ Some job) × (r ≡ refusal.Busy n job)

-- one over the case passes only if this isn't so, and else it is
pub record RefusesCase (w : World) (b : BookState) (c : Case) (k : Check) (Q : Type 0) (of : Refusal) : Type 0 where
  pub passes : refusal_in w b c k ≡ None → Q → ⊥
  pub refuses : (r : Refusal) → refusal_in w b c k ≡ Some r → (r ≡ of) × Q

-- the book has it below this one, attached or detached
abbrev pub IsFrom : SourceState → ServerNo → Type 0
IsFrom s x = (s ≡ Attached x) ⊎ (s ≡ Detached x)

-- the source that the book has of it; of a server that it doesn't have it has none
pub record HasSource (b : BookState) (n x : ServerNo) : Type 0 where
  pub instance : Instance
  pub there : instance_at b n ≡ Some instance
  pub source : IsFrom instance.seen.source x

-- by the book it is attached to this one, or detached
pub record IsSeenSo (Q : SourceState → Type 0) (b : BookState) (n : ServerNo) : Type 0 where
  pub instance : Instance
  pub there : instance_at b n ≡ Some instance
  pub source : Q instance.seen.source

abbrev pub IsAttachedTo : BookState → ServerNo → ServerNo → Type 0
IsAttachedTo b n x = IsSeenSo (λ s. s ≡ Attached x) b n

-- the destination is attached to the instance's source
pub record IsSibling (b : BookState) (c : Case) : Type 0 where
  pub source : ServerNo
  pub destination : ServerNo
  pub given : c.to ≡ Some destination
  pub below : HasSource b c.i source
  pub beside : IsAttachedTo b destination source

-- A server that moves has another server id than its new source, no lower version, and the same label. New sources
-- write a binary log, and so does a server that must be matched. The last readings of the servers that must be reached
-- reached them. What the book has of the instance's source, of that one's source and of the destination's is as it must
-- be.
pub record ChecksByTable (w : World) (b : BookState) (c : Case) : Type 0 where
  pub ids : RefusesMoves (λ s t. s.settings.server_id ≡ t.settings.server_id) w b c check.SameServerId (λ n. refusal.SameServerId n)
  pub versions : RefusesMoves (λ s t. IsLower s.settings.version t.settings.version) w b c check.VersionLower (λ n. refusal.VersionLower n)
  pub labels : RefusesMoves (λ s t. s.settings.cluster ≡ t.settings.cluster → ⊥) w b c check.OtherCluster (λ n. refusal.OtherCluster)
  pub moved : RefusesMoves (λ s t. s.settings.logs ≡ false) w b c check.MovedNotLogging (λ n. refusal.MovedNotLogging n)
  pub logs : RefusesServers (Logs w) w b c check.DestNotLogging c.sources (λ n. refusal.DestNotLogging)
  pub reached : RefusesServers (WasReached b) w b c check.Unreachable c.reached (λ n. refusal.Unreachable n)
  pub leases : RefusesLeased w b c
  pub same : RefusesCase w b c check.SameInstance (c.to ≡ Some c.i) refusal.SameInstance
  pub source : RefusesCase w b c check.NoSource ((x : ServerNo) → HasSource b c.i x → ⊥) refusal.NoSource
  pub attached : RefusesCase w b c check.NotDetached ((x : ServerNo) × IsAttachedTo b c.i x) refusal.NotDetached
  pub detached : RefusesCase w b c check.AlreadyDetached ((x : ServerNo) × IsSeenSo (λ s. s ≡ Detached x) b c.i) refusal.AlreadyDetached
  pub above : RefusesCase w b c check.SourceHasNoSource ((x y : ServerNo) → HasSource b c.i x → IsAttachedTo b x y → ⊥) refusal.SourceHasNoSource
  pub sibling : RefusesCase w b c check.NotSibling (IsSibling b c → ⊥) refusal.NotSibling
  pub own : RefusesCase w b c check.NotSameLog ((x : ServerNo) → HasSource b c.i x → c.to ≡ Some x → ⊥) refusal.NotSameLog
  pub gtid : RefusesCase w b c check.GtidOff (w.gtid ≡ false) refusal.GtidOff

-- ---- rows

-- The numbers of the checks of each command, except 2, 19 and 26. A repoint goes by GTIDs or by coordinates. A way that
-- is looked for in GTID mode has other checks than one without.
abbrev pub coords_numbers : Bool → CoordsCommand → List ℕ
coords_numbers auto coords_kind.MoveUp = 4 ∷ 5 ∷ 6 ∷ 8 ∷ 11 ∷ 15 ∷ 16 ∷ 30 ∷ []
coords_numbers auto coords_kind.MoveUpReplicas = 4 ∷ 5 ∷ 6 ∷ 8 ∷ 15 ∷ 16 ∷ 30 ∷ []
coords_numbers auto coords_kind.MoveBelow = 3 ∷ 4 ∷ 5 ∷ 6 ∷ 8 ∷ 9 ∷ 10 ∷ 12 ∷ 14 ∷ 15 ∷ 16 ∷ []
coords_numbers true coords_kind.Repoint = 3 ∷ 4 ∷ 5 ∷ 6 ∷ 8 ∷ 9 ∷ 10 ∷ 14 ∷ 15 ∷ 16 ∷ 18 ∷ 30 ∷ []
coords_numbers false coords_kind.Repoint = 3 ∷ 4 ∷ 5 ∷ 6 ∷ 8 ∷ 13 ∷ 30 ∷ []
coords_numbers auto coords_kind.TakeSiblings = 4 ∷ 5 ∷ 6 ∷ 8 ∷ 14 ∷ 15 ∷ 16 ∷ []
coords_numbers auto coords_kind.TakeMaster = 4 ∷ 5 ∷ 6 ∷ 8 ∷ 11 ∷ 14 ∷ 15 ∷ 16 ∷ 30 ∷ []
coords_numbers auto coords_kind.DetachReplica = 4 ∷ 5 ∷ 6 ∷ 8 ∷ []
coords_numbers auto coords_kind.ReattachReplica = 4 ∷ 5 ∷ 6 ∷ 7 ∷ []
coords_numbers auto coords_kind.ResetReplica = 4 ∷ 5 ∷ 6 ∷ []
coords_numbers auto coords_kind.StartReplica = 4 ∷ 5 ∷ 6 ∷ 8 ∷ []
coords_numbers auto coords_kind.StopReplica = 4 ∷ 5 ∷ 6 ∷ 8 ∷ []
coords_numbers auto coords_kind.RestartReplica = 4 ∷ 5 ∷ 6 ∷ 8 ∷ []
coords_numbers auto coords_kind.SetReadOnly = 4 ∷ 5 ∷ []
coords_numbers auto coords_kind.SetWriteable = 4 ∷ 5 ∷ []

abbrev pub gtid_numbers : GtidCommand → List ℕ
gtid_numbers gtid_kind.MoveGtid = 3 ∷ 4 ∷ 5 ∷ 9 ∷ 10 ∷ 14 ∷ 15 ∷ 16 ∷ 17 ∷ 18 ∷ 30 ∷ []
gtid_numbers gtid_kind.MoveReplicasGtid = 3 ∷ 4 ∷ 5 ∷ 9 ∷ 10 ∷ 14 ∷ 15 ∷ 16 ∷ 17 ∷ 18 ∷ 30 ∷ []
gtid_numbers gtid_kind.EnableGtid = 4 ∷ 5 ∷ 6 ∷ 8 ∷ 17 ∷ 18 ∷ 30 ∷ []
gtid_numbers gtid_kind.DisableGtid = 4 ∷ 5 ∷ 6 ∷ 8 ∷ 17 ∷ 30 ∷ []

abbrev pub path_numbers : Bool → PathCommand → List ℕ
path_numbers true path_kind.Relocate = 3 ∷ 4 ∷ 5 ∷ 9 ∷ 10 ∷ 14 ∷ 15 ∷ 16 ∷ 17 ∷ 18 ∷ 30 ∷ []
path_numbers false path_kind.Relocate = 3 ∷ 4 ∷ 5 ∷ 6 ∷ 8 ∷ 9 ∷ 10 ∷ 14 ∷ 15 ∷ 16 ∷ 30 ∷ []
path_numbers true path_kind.RelocateReplicas = 3 ∷ 4 ∷ 5 ∷ 9 ∷ 10 ∷ 14 ∷ 15 ∷ 16 ∷ 18 ∷ 30 ∷ []
path_numbers false path_kind.RelocateReplicas = 3 ∷ 4 ∷ 5 ∷ 9 ∷ 10 ∷ 14 ∷ 15 ∷ 16 ∷ 30 ∷ []
path_numbers gtid path_kind.RegroupReplicas = 4 ∷ []

abbrev pub match_numbers : MatchCommand → List ℕ
match_numbers match_kind.Match = 3 ∷ 4 ∷ 5 ∷ 9 ∷ 10 ∷ 14 ∷ 15 ∷ 16 ∷ 31 ∷ 32 ∷ []
match_numbers match_kind.MatchUp = 4 ∷ 5 ∷ 6 ∷ 8 ∷ 11 ∷ 14 ∷ 15 ∷ 16 ∷ 31 ∷ 32 ∷ []
match_numbers match_kind.MatchReplicas = 3 ∷ 4 ∷ 5 ∷ 9 ∷ 10 ∷ 14 ∷ 15 ∷ 16 ∷ 31 ∷ 32 ∷ []
match_numbers match_kind.RegroupReplicas = 4 ∷ 31 ∷ []

-- the numbers of a row's checks
abbrev pub numbers : List Check → List ℕ
numbers row = map check_number row

-- Each command has these checks. A match has number 31 only without marks.
pub record RowsByTable : Type 0 where
  pub coords : (auto : Bool) (k : CoordsCommand) → numbers (coords_row auto k) ≡ coords_numbers auto k
  pub gtids : (k : GtidCommand) → numbers (gtid_row k) ≡ gtid_numbers k
  pub paths : (gtid : Bool) (k : PathCommand) → numbers (path_row gtid k ++ path_last gtid k) ≡ path_numbers gtid k
  pub matches : (k : MatchCommand) → numbers (match_row k ++ match_last 0 k) ≡ match_numbers k
  pub marked : (every : ℕ) (k : MatchCommand) → 0 < every → numbers (match_row k ++ match_last every k) ≡ filter (λ n. not (n == 31)) (match_numbers k)
  pub takeover : numbers takeover_row ≡ 3 ∷ 4 ∷ 5 ∷ 14 ∷ 15 ∷ 16 ∷ []

-- ---- the plan of enable-gtid

-- it takes the instance below its source by the set of that one
abbrev pub EnablesBySet : Type 0
EnablesBySet = (i x : ServerNo) → Contains (gtid_plans.enabled i (Some x)) (op.Auto i x)

-- ---- codes

-- an instance without a source, or with one, that was reached or wasn't
abbrev pub Is : Counts → Bool → Bool → Type 0
Is c source valid = (c.has_source ≡ source) × (c.valid ≡ valid)

-- none of the replicas that were reached replicates
abbrev pub NoneReplicates : Counts → Type 0
NoneReplicates c = c.replicating ≡ 0

abbrev pub AllReached : Counts → Type 0
AllReached c = c.valid_replicas ≡ c.replicas

abbrev pub SomeReached : Counts → Type 0
SomeReached c = (0 < c.valid_replicas) × (c.valid_replicas < c.replicas)

-- What each code reports: whether the instance has a source and was reached, how many replicas it has, how many of
-- these were reached, and whether they replicate and lag.
abbrev pub CodeSays : Code → Counts → Type 0
CodeSays code.MasterSingleReplicaDead c = Is c false true × (c.replicas ≡ 1) × (c.valid_replicas ≡ 0)
CodeSays code.MasterSingleReplicaNotReplicating c = Is c false true × (c.replicas ≡ 1) × AllReached c × NoneReplicates c
CodeSays code.AllMasterReplicasNotReplicating c = Is c false true × (1 < c.replicas) × AllReached c × NoneReplicates c
CodeSays code.AllMasterReplicasNotReplicatingOrDead c = Is c false true × (1 < c.replicas) × (c.valid_replicas < c.replicas) × NoneReplicates c
CodeSays code.DeadMasterWithoutReplicas c = Is c false false × (c.replicas ≡ 0)
CodeSays code.DeadMasterAndReplicas c = Is c false false × (0 < c.replicas) × (c.valid_replicas ≡ 0)
CodeSays code.DeadMaster c = Is c false false × (0 < c.replicas) × AllReached c × NoneReplicates c
CodeSays code.DeadMasterAndSomeReplicas c = Is c false false × SomeReached c × NoneReplicates c
CodeSays code.UnreachableMasterWithLaggingReplicas c = Is c false false × (0 < c.replicating) × (c.lagging ≡ c.replicating)
CodeSays code.UnreachableMaster c = Is c false false × (0 < c.replicating) × (c.lagging < c.replicating)
CodeSays code.AllIntermediateMasterReplicasNotReplicating c = Is c true true × (0 < c.replicas) × NoneReplicates c
CodeSays code.DeadIntermediateMasterAndReplicas c = Is c true false × (0 < c.replicas) × (c.valid_replicas ≡ 0)
CodeSays code.DeadIntermediateMasterWithSingleReplica c = Is c true false × (c.replicas ≡ 1) × AllReached c × NoneReplicates c
CodeSays code.DeadIntermediateMaster c = Is c true false × (1 < c.replicas) × AllReached c × NoneReplicates c
CodeSays code.DeadIntermediateMasterAndSomeReplicas c = Is c true false × SomeReached c × NoneReplicates c
CodeSays code.UnreachableIntermediateMasterWithLaggingReplicas c = Is c true false × (0 < c.replicating) × (c.lagging ≡ c.replicating)
CodeSays code.UnreachableIntermediateMaster c = Is c true false × (0 < c.replicating) × (c.lagging < c.replicating)
CodeSays code.NoProblem c = Unit {0}

-- an analysis gives the code that reports what was counted
pub record CodesByTable : Type 0 where
  pub says : (c : Counts) → CodeSays (code_of c) c
  pub found : (c : Counts) (k : Code) → AreCounts c → CodeSays k c → (k ≡ code.NoProblem) ⊎ (code_of c ≡ k)

-- ---- block periods

abbrev pub AreOthers : List ℕ → List Block → Type 0
AreOthers cluster xs = All (λ x. x.cluster ≡ cluster → ⊥) xs

-- a cluster's period is that of the first entry with its label; without one it is the default
pub record PeriodsByTable (xs : List Block) (otherwise : ℕ) (cluster : List ℕ) : Type 0 where
  pub own : (front rest : List Block) (x : Block) → xs ≡ front ++ x ∷ rest → AreOthers cluster front → x.cluster ≡ cluster → period_in xs otherwise cluster ≡ x.seconds
  pub none : AreOthers cluster xs → period_in xs otherwise cluster ≡ otherwise
