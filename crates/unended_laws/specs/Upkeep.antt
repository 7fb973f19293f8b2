-- What a recovery keeps up: the appliers of those that follow, and the old master of a takeover, which takes no writes
-- and has no source.
use Rattle.std.specs.Prelude.{◌≡◌, ◌<◌, ◌⊎◌, ℕ, Bool, true, false, List, [], ◌∷◌, Some, None, Err, All}
use Rattle.unended_laws.specs.Prelude.{Ask, Decisions, Deed, Exchange, Fact, Flight, Ground, IsFree, IsGivenUp, IsPassed, IsYetToStart, Line, Position, Server}
use Rattle.unended_laws.specs.Prelude.{ServerNo, Sight, Spot, Stage, Unended, Way, Without, World, attach_answer_of, attached_no, attachment_by}
use Rattle.unended_laws.specs.Prelude.{closed_at, crowns, deed_of, gather, is_attached, is_takeover, number_of, seen_of, tail_of, times}
use Rattle.unended_laws.specs.Prelude.asking
use Rattle.unended_laws.specs.Prelude.attaching
use Rattle.unended_laws.specs.Prelude.deed
use Rattle.unended_laws.specs.Prelude.model
use Rattle.unended_laws.specs.Prelude.op
use Rattle.unended_laws.specs.Prelude.purpose
use Rattle.unended_laws.specs.Prelude.stage
use Rattle.unended_laws.specs.Prelude.unended
use Rattle.unended_laws.specs.Resting.{RestsSoFar}
use Rattle.unended_laws.specs.There.{IsApplying, IsThere}
use Rattle.unended_jobs.specs.RecoveryPlans.Recoveries.{Recovery}

-- ---- servers

-- it refuses writes
abbrev pub Refuses : Server → Type 0
Refuses s = s.read_only ≡ true

-- it isn't attached to a source
abbrev pub Stands : Server → Type 0
Stands s = is_attached s.source ≡ false

abbrev pub IsShut : World → ℕ → Type 0
IsShut w n = IsThere Refuses w n

abbrev pub IsLoose : World → ℕ → Type 0
IsLoose w n = IsThere Stands w n

-- it was started: its applier is on, unless it isn't attached
abbrev pub GoesOn : World → ℕ → Type 0
GoesOn w n = IsApplying w n ⊎ IsLoose w n

-- ---- followers

-- the master that gave up its place
abbrev pub IsOldMaster : Recovery → ServerNo → Type 0
IsOldMaster r n = (is_takeover r.purpose ≡ true) × (n ≡ r.failed)

-- it was to take the chosen one's place, that was given up, and it wasn't reached when it was to be started again
abbrev pub WasLeft : (Fact → Bool) → ServerNo → Type 0
WasLeft P n = ((p : ServerNo) × (P (IsGivenUp p n) ≡ true)) × (P (IsPassed n) ≡ true)

-- A follower's applier is on. The exceptions are an old master, which isn't started, and one that was left.
abbrev pub RunsOn : (Fact → Bool) → World → Recovery → ServerNo → Type 0
RunsOn P w r n = IsApplying w n.0 ⊎ (IsOldMaster r n ⊎ WasLeft P n)

-- ---- the last readings

-- what was seen of a server last: it has no source
pub record SawFree (seen : List Sight) (n : ServerNo) : Type 0 where
  pub position : Position
  pub last : seen_of seen n.0 ≡ Some position
  pub free : position.source ≡ Without

-- or it is attached to this one
pub record SawBelow (seen : List Sight) (n m : ServerNo) : Type 0 where
  pub position : Position
  pub last : seen_of seen n.0 ≡ Some position
  pub below : attached_no position.source ≡ Some m.0

-- a takeover's old master was read below the designated one
abbrev pub OldWasRead : Recovery → Type 0
OldWasRead r = (d : ServerNo) → r.purpose ≡ purpose.Takeover d → SawBelow r.core.seen r.failed d

-- What a recovery that is done leaves: its followers so; of a regroup the chosen one; of a takeover the old master. In
-- a master's place it read the promoted one last, without a source, and a takeover's old master below it.
pub record KeepsUp (P : Fact → Bool) (w : World) (r : Recovery) : Type 0 where
  pub followers : All (λ x. RunsOn P w r x.no) r.outcome.followers
  pub chosen : (p : ServerNo) → r.purpose ≡ purpose.Regroup → r.chosen ≡ Some p → GoesOn w p.0
  pub shut : is_takeover r.purpose ≡ true → IsShut w r.failed.0
  pub read : (n : ServerNo) → crowns r.purpose ≡ true → r.outcome.promoted ≡ Some n → SawFree r.core.seen n × OldWasRead r

-- a takeover closes its master before it changes any server
abbrev pub ClosesFirst : World → Recovery → Exchange → Type 0
ClosesFirst w r e = is_takeover r.purpose ≡ true → (e ≡ model.Request r.failed.0 (asking.SetReadOnly true)) ⊎ IsShut w r.failed.0

-- ---- so far

-- A follower comes to the end of the chosen one's log, or is to be started again because that was given up. Or the
-- chosen one is to be started below the better one.
abbrev pub IsInWork : (Fact → Bool) → Recovery → ServerNo → Type 0
IsInWork P r n =
    ((p : ServerNo) × (r.stage ≡ stage.Level p n))
    ⊎ (((p : ServerNo) × (P (IsGivenUp p n) ≡ true) × (r.stage ≡ stage.Release n) × (r.core.ops ≡ op.Start n ∷ [])) ⊎ IsYetToStart r n)

abbrev pub IsKeptUp : (Fact → Bool) → World → Recovery → ServerNo → Type 0
IsKeptUp P w r n = RunsOn P w r n ⊎ IsInWork P r n

-- the servers whose threads or source a stage's operations change, except by starts
abbrev pub altered_by : Stage → List ServerNo
altered_by stage.Idle = []
altered_by stage.Check = []
altered_by (stage.Read n) = []
altered_by (stage.Drain n) = n ∷ []
altered_by (stage.Judged n) = []
altered_by (stage.Move n by) = n ∷ []
altered_by (stage.Join n p) = []
altered_by (stage.Expel n) = n ∷ []
altered_by (stage.Expelled n) = []
altered_by (stage.Release n) = []
altered_by (stage.Level p q) = p ∷ q ∷ []
altered_by (stage.Swap p q) = p ∷ []
altered_by (stage.Swapped p q) = []
altered_by (stage.Return p q) = q ∷ []
altered_by (stage.Resume p q) = []
altered_by (stage.Crown n) = n ∷ []
altered_by (stage.Open n) = []
altered_by (stage.Opened n) = []
altered_by (stage.Meet m d) = []
altered_by (stage.Shut m d) = d ∷ []
altered_by (stage.Gather m d) = d ∷ []
altered_by (stage.Look n x) = []
altered_by (stage.Looked n x) = []
altered_by (stage.Trail n x) = n ∷ []
altered_by (stage.Halted n x) = []
altered_by (stage.Yield m d) = m ∷ d ∷ []
altered_by (stage.Switch m d) = m ∷ []
altered_by (stage.Switched m d) = []
altered_by (stage.Close lines) = []

-- starts, and what clients may do, change neither
abbrev pub IsGentle : Ask → Type 0
IsGentle asking.Start = Unit {0}
IsGentle (asking.SetReadOnly on) = Unit {0}
IsGentle (asking.Stop which) = ⊥
IsGentle (asking.StartUntil to) = ⊥
IsGentle asking.Detach = ⊥
IsGentle asking.Reattach = ⊥
IsGentle asking.Reset = ⊥

-- an operation changes them of these servers alone
abbrev pub AltersOnly : List ServerNo → Deed → Type 0
AltersOnly ns (deed.Look n from) = Unit {0}
AltersOnly ns (deed.Request n a) = IsGentle a ⊎ (0 < times n.0 ns)
AltersOnly ns (deed.Until n to) = 0 < times n.0 ns
AltersOnly ns (deed.Await n to) = Unit {0}
AltersOnly ns (deed.AwaitSet n m) = Unit {0}
AltersOnly ns (deed.Settle n) = Unit {0}
AltersOnly ns (deed.Cross c a b) = 0 < times a.0 ns
AltersOnly ns (deed.Same n) = 0 < times n.0 ns
AltersOnly ns (deed.Auto n m) = 0 < times n.0 ns
AltersOnly ns (deed.Match n m every) = Unit {0}
AltersOnly ns (deed.CrossMatch n m) = 0 < times n.0 ns
AltersOnly ns (deed.Finish lines) = Unit {0}

-- a takeover's master isn't closed yet
abbrev pub IsOpenYet : Stage → Type 0
IsOpenYet s = (m : ServerNo) × (d : ServerNo) × ((s ≡ stage.Meet m d) ⊎ (s ≡ stage.Shut m d))

-- what is left at the end in a master's place: a takeover's old master is read, then the promoted one
abbrev pub ReadsLast : Recovery → ServerNo → List Line → Type 0
ReadsLast r n lines =
    (r.core.ops ≡ op.Status r.failed None ∷ op.Status n None ∷ op.Finish lines ∷ [])
    ⊎ (((r.core.ops ≡ op.Status n None ∷ op.Finish lines ∷ []) × OldWasRead r) ⊎ ((r.core.ops ≡ op.Finish lines ∷ []) × (SawFree r.core.seen n × OldWasRead r)))

-- A recovery under way keeps up its followers. A regroup's chosen one is to be started at the end, or was. A takeover
-- closes its master before it does anything else, and leaves it so.
pub record UpSoFar (P : Fact → Bool) (w : World) (r : Recovery) : Type 0 where
  pub alters : All (λ o. AltersOnly (altered_by r.stage) (deed_of o)) r.core.ops
  pub followers : All (λ x. IsKeptUp P w r x.no) r.outcome.followers
  pub rejoins : (p : ServerNo) (lines : List Line) → r.purpose ≡ purpose.Regroup → r.stage ≡ stage.Close lines → r.chosen ≡ Some p
      → (r.core.ops ≡ op.Start p ∷ op.Finish lines ∷ []) ⊎ GoesOn w p.0
  pub first : (m d : ServerNo) → r.stage ≡ stage.Shut m d → (r.core.ops ≡ op.ReadOnly m true ∷ gather m d) ⊎ (r.core.ops ≡ [])
  pub shut : is_takeover r.purpose ≡ true → IsOpenYet r.stage ⊎ IsShut w r.failed.0
  pub reads : (n : ServerNo) (lines : List Line) → crowns r.purpose ≡ true → r.stage ≡ stage.Close lines → r.outcome.promoted ≡ Some n → ReadsLast r n lines

-- ---- the master of a takeover

-- it has been read, and isn't below the designated one: it is to be closed, or is
abbrev pub IsToStand : ServerNo → Stage → Type 0
IsToStand f s = ((m : ServerNo) × (d : ServerNo) × (s ≡ stage.Shut m d)) ⊎ ((m : ServerNo) × (closed_at f s ≡ Some m))

-- then it has no source
abbrev pub StandsAlone : World → Recovery → Type 0
StandsAlone w r = is_takeover r.purpose ≡ true → IsToStand r.failed r.stage → IsFree w r.failed.0

-- the master that a takeover has closed, which takes writes again if it fails, has no source
abbrev pub OpensAlone : World → Recovery → Type 0
OpensAlone w d = (m : ServerNo) → is_takeover d.purpose ≡ true → closed_at d.failed d.stage ≡ Some m → IsFree w m.0

-- An exchange of a turn that goes on, of the recovery as it was decided so far. Nothing is asked of a takeover's master
-- but to refuse writes. It is attached only when the designated one takes its place. What is no orchestrator's isn't
-- made.
abbrev pub SparesMaster : Recovery → Exchange → Type 0
SparesMaster r (model.Request n a) = is_takeover r.purpose ≡ true → n ≡ r.failed.0 → a ≡ asking.SetReadOnly true
SparesMaster r (model.Attach n expect to at) = is_takeover r.purpose ≡ true → n ≡ r.failed.0 → (d : ServerNo) × (r.stage ≡ stage.Switch r.failed d)
SparesMaster r (model.AttachAuto n observed to) = is_takeover r.purpose ≡ true → n ≡ r.failed.0 → (d : ServerNo) × (r.stage ≡ stage.Switch r.failed d)
SparesMaster r (model.Write n size) = ⊥
SparesMaster r (model.Fetch n) = ⊥
SparesMaster r (model.Apply n) = ⊥
SparesMaster r (model.Befall n e) = ⊥
SparesMaster r (model.Rotate n) = ⊥
SparesMaster r (model.Purge n file) = ⊥

-- so is each of a turn's exchanges
pub record SparesItsMaster (g : Ground) (r : Recovery) (es : List Exchange) : Type 0 where
  pub decided : Recovery
  pub so : Decisions g r decided
  pub each : All (SparesMaster decided) es

-- ---- attachments

-- the attachment of a replica that goes its way, if it is due, doesn't find it at another position
abbrev pub IsNeverInterfered : World → Recovery → Type 0
IsNeverInterfered w d =
    (n : ServerNo) (by : Way) (e : Exchange) (expected found : Spot) → d.stage ≡ stage.Move n by → d.core.ops ≡ tail_of (stage.Move n by)
    → attachment_by d n by ≡ Some e → attach_answer_of w e ≡ Err (attaching.Interfered expected found) → ⊥

-- ---- beside others

-- a recovery keeps up so far what it is to, its replicas rest, and a takeover's master has no source
abbrev pub IsUpBeside : (Fact → Bool) → World → Unended → Type 0
IsUpBeside P w (unended.Plan j) = Unit {0}
IsUpBeside P w (unended.Recovery r docket) = UpSoFar P w r × RestsSoFar w r × StandsAlone w r

-- so does the one of this number
pub record UpJobs (P : Fact → Bool) (id : ℕ) (f : Flight) (us : List Unended) : Type 0 where
  pub jobs : All (λ u. number_of u ≡ id → IsUpBeside P f.world u) us
