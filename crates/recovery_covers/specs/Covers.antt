-- What a finished recovery owes the replicas of the server that failed, or that gave up its place.
use Rattle.std.specs.Prelude.{◌≡◌, ℕ, ◌+◌, ◌≤◌, Bool, true, false, ◌==◌, if◌then◌else◌, List, [], ◌∷◌, map, Option, Some, None, All, Contains, ◌⊎◌}
use Rattle.recovery_covers.specs.Prelude.{Follower, IsApart, IsRuling, IsUnder, Line, LostReplica, Outcome, Purpose, Recovery, ServerNo, World}
use Rattle.recovery_covers.specs.Prelude.{is_master, result_lines}
use Rattle.recovery_covers.specs.Prelude.purpose
use Rattle.recovery_covers.specs.Prelude.stage

-- how often a server is in a list
abbrev pub times : ℕ → List ServerNo → ℕ
times n [] = 0
times n (k ∷ ks) = (if k.0 == n then 1 else 0) + times n ks

abbrev pub follower_nos : List Follower → List ServerNo
follower_nos xs = map (λ x. x.no) xs

abbrev pub lost_nos : List LostReplica → List ServerNo
lost_nos xs = map (λ l. l.no) xs

abbrev pub listed : Option ServerNo → List ServerNo
listed None = []
listed (Some n) = n ∷ []

-- ---- who has a place

-- the replicas, and in a takeover the old master, too
abbrev pub owed : Purpose → ServerNo → List ServerNo → List ServerNo
owed purpose.Regroup f replicas = replicas
owed purpose.Master f replicas = replicas
owed (purpose.Intermediate s) f replicas = replicas
owed (purpose.Takeover d) f replicas = f ∷ replicas

-- the promoted one is one of them, but a successor isn't
abbrev pub leader : Purpose → Option ServerNo → List ServerNo
leader purpose.Regroup o = listed o
leader purpose.Master o = listed o
leader (purpose.Intermediate s) o = []
leader (purpose.Takeover d) o = listed o

-- a successor is no replica; the designated one is
abbrev pub IsPlaced : Purpose → List ServerNo → Type 0
IsPlaced purpose.Regroup replicas = Unit {0}
IsPlaced purpose.Master replicas = Unit {0}
IsPlaced (purpose.Intermediate s) replicas = times s.0 replicas ≡ 0
IsPlaced (purpose.Takeover d) replicas = times d.0 replicas ≡ 1

-- With whom a recovery begins: no server is named twice, so that a master who gives up its place is no replica of its
-- own.
pub record AreReplicas (u : Purpose) (f : ServerNo) (replicas : List ServerNo) : Type 0 where
  pub distinct : (n : ℕ) → times n (owed u f replicas) ≤ 1
  pub placed : IsPlaced u replicas

-- ---- the positions of the promoted server and the followers

-- the promoted server takes its master's place
abbrev pub crowns : Purpose → Bool
crowns purpose.Regroup = false
crowns purpose.Master = true
crowns (purpose.Intermediate s) = false
crowns (purpose.Takeover d) = true

-- a follower's source is the promoted server; or, after a swap in a master's recovery, a follower of that one
abbrev pub Follows : Purpose → Outcome → Follower → Type 0
Follows u o x =
    (o.promoted ≡ Some x.source)
    ⊎ ((n : ServerNo) × (o.promoted ≡ Some n) × (is_master u ≡ true) × Contains o.followers (record { no = x.source; source = n }))

-- the new source that was named at the start is the promoted one; an old master follows it
abbrev pub IsAsNamed : Purpose → ServerNo → Outcome → Type 0
IsAsNamed purpose.Regroup f o = Unit {0}
IsAsNamed purpose.Master f o = Unit {0}
IsAsNamed (purpose.Intermediate s) f o = o.promoted ≡ Some s
IsAsNamed (purpose.Takeover d) f o = (o.promoted ≡ Some d) × Contains o.followers (record { no = f; source = d })

-- An outcome covers the replicas. There is a promoted server, which in the place of a master has no source and takes
-- writes. Each replica is the promoted one, a follower or lost, once and in one of these only. An old master is a
-- follower, and there are no others. Each follower is attached to its source, and each lost one that is marked as
-- detached is.
pub record Covers (w : World) (u : Purpose) (f : ServerNo) (ns : List ServerNo) (o : Outcome) : Type 0 where
  pub promoted : ServerNo
  pub is_promoted : o.promoted ≡ Some promoted
  pub rules : crowns u ≡ true → IsRuling w promoted.0
  pub replicas : AreReplicas u f ns
  pub once : (n : ℕ) → times n (leader u o.promoted) + (times n (follower_nos o.followers) + times n (lost_nos o.lost)) ≡ times n (owed u f ns)
  pub attached : All (λ x. IsUnder w x.no.0 x.source.0) o.followers
  pub follow : All (Follows u o) o.followers
  pub apart : All (λ l. l.detached ≡ true → IsApart w l.no.0) o.lost
  pub named : IsAsNamed u f o

-- so often a server is promoted, a follower and lost: once in one of these, and in no other
abbrev pub IsOnceIn : ℕ → ℕ → ℕ → Type 0
IsOnceIn promoted follows lost =
    ((promoted ≡ 1) × (follows ≡ 0) × (lost ≡ 0)) ⊎ (((promoted ≡ 0) × (follows ≡ 1) × (lost ≡ 0)) ⊎ ((promoted ≡ 0) × (follows ≡ 0) × (lost ≡ 1)))

abbrev pub HasOnePlace : Purpose → Outcome → ℕ → Type 0
HasOnePlace u o n = IsOnceIn (times n (leader u o.promoted)) (times n (follower_nos o.followers)) (times n (lost_nos o.lost))

-- a better one took the chosen one's place, which follows it
pub record HasSwapped (r : Recovery) : Type 0 where
  pub was : ServerNo
  pub is : ServerNo
  pub chosen : r.chosen ≡ Some was
  pub promoted : r.outcome.promoted ≡ Some is
  pub master : is_master r.purpose ≡ true
  pub follows : Contains r.outcome.followers (record { no = was; source = is })

-- A recovery that is done covers its replicas, and its lines are those of its outcome. The chosen one is promoted, or
-- was. Nothing comes after that stage, and no task is left.
pub record IsTold (w : World) (r : Recovery) (lines : List Line) : Type 0 where
  pub closed : r.stage ≡ stage.Close lines
  pub over : r.queue ≡ []
  pub covers : Covers w r.purpose r.failed r.replicas r.outcome
  pub told : lines ≡ result_lines r
  pub leads : (r.outcome.promoted ≡ r.chosen) ⊎ HasSwapped r
