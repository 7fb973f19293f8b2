-- How far a recovery has come in covering its replicas.
use Rattle.std.specs.Prelude.{◌≡◌, ℕ, ◌+◌, ◌<◌, Bool, true, false, ◌&&◌, ◌||◌, not, List, [], ◌∷◌, ◌++◌, map, Option, Some, None, IfSome, All, Contains, ◌⊎◌}
use Rattle.recovery_covers.specs.Prelude.{Bridge, Follower, IsApart, IsFree, IsRuling, IsSourced, IsSourcedAsSeen, IsUnder, Purpose, Reads, Recovery}
use Rattle.recovery_covers.specs.Prelude.{ServerNo, Stage, Standing, Stopped, Task, World, expels, first_source, info, is_master, is_takeover}
use Rattle.recovery_covers.specs.Prelude.{result_lines, tail_of, target}
use Rattle.recovery_covers.specs.Prelude.purpose
use Rattle.recovery_covers.specs.Prelude.stage
use Rattle.recovery_covers.specs.Prelude.standing
use Rattle.recovery_covers.specs.Prelude.task
use Rattle.recovery_covers.specs.Prelude.way
use Rattle.recovery_covers.specs.Covers.{times, follower_nos, lost_nos, owed, leader, crowns, AreReplicas, HasSwapped}

-- ---- the places

abbrev pub stopped_nos : List Stopped → List ServerNo
stopped_nos xs = map (λ s. s.no) xs

-- the server that a task is to place: of a replica, or of a master that gives up its place
abbrev pub of_task : ServerNo → Task → List ServerNo
of_task f (task.Reading n) = []
of_task f (task.Draining n) = n ∷ []
of_task f task.Choosing = []
of_task f task.Handing = []
of_task f (task.Moving n by) = n ∷ []
of_task f task.Sorting = []
of_task f (task.Expelling n) = []
of_task f (task.Releasing n) = []
of_task f (task.Trailing n) = n ∷ []
of_task f task.Yielding = f ∷ []

abbrev pub of_queue : ServerNo → List Task → List ServerNo
of_queue f [] = []
of_queue f (t ∷ ts) = of_task f t ++ of_queue f ts

-- the server that a stage is placing
abbrev pub of_stage : Stage → List ServerNo
of_stage s = (info s).places

-- how often a server is being moved by the stage, to be moved, drained, promoted, a follower and lost
abbrev pub total : ℕ → Recovery → Stage → ℕ
total n r s =
    times n (of_stage s)
    + (times n (of_queue r.failed r.queue)
    + (times n (stopped_nos r.drained)
    + (times n (leader r.purpose r.outcome.promoted) + (times n (follower_nos r.outcome.followers) + times n (lost_nos r.outcome.lost)))))

-- ---- the order of what is to do

abbrev pub is_choosing : Task → Bool
is_choosing task.Choosing = true
is_choosing (task.Reading n) = false
is_choosing (task.Draining n) = false
is_choosing task.Handing = false
is_choosing (task.Moving n by) = false
is_choosing task.Sorting = false
is_choosing (task.Expelling n) = false
is_choosing (task.Releasing n) = false
is_choosing (task.Trailing n) = false
is_choosing task.Yielding = false

-- what becomes of the drained ones is decided
abbrev pub is_deciding : Task → Bool
is_deciding task.Choosing = true
is_deciding task.Handing = true
is_deciding (task.Reading n) = false
is_deciding (task.Draining n) = false
is_deciding (task.Moving n by) = false
is_deciding task.Sorting = false
is_deciding (task.Expelling n) = false
is_deciding (task.Releasing n) = false
is_deciding (task.Trailing n) = false
is_deciding task.Yielding = false

abbrev pub chooses : List Task → Bool
chooses [] = false
chooses (t ∷ ts) = is_choosing t || chooses ts

abbrev pub decides : List Task → Bool
decides [] = false
decides (t ∷ ts) = is_deciding t || decides ts

abbrev pub is_nil : List Task → Bool
is_nil [] = true
is_nil (t ∷ ts) = false

-- what a task needs of those after it: a drained one's decision comes, there is one decision, and nothing is left once
-- a master gives up its place
abbrev pub is_before : Task → List Task → Bool
is_before (task.Draining n) ts = decides ts
is_before task.Choosing ts = not (decides ts)
is_before task.Handing ts = not (decides ts)
is_before task.Yielding ts = is_nil ts
is_before (task.Reading n) ts = true
is_before (task.Moving n by) ts = true
is_before task.Sorting ts = true
is_before (task.Expelling n) ts = true
is_before (task.Releasing n) ts = true
is_before (task.Trailing n) ts = true

abbrev pub in_order : List Task → Bool
in_order [] = true
in_order (t ∷ ts) = is_before t ts && in_order ts

-- ---- the new source

abbrev pub is_intermediate : Purpose → Bool
is_intermediate purpose.Regroup = false
is_intermediate purpose.Master = false
is_intermediate (purpose.Intermediate s) = true
is_intermediate (purpose.Takeover d) = false

-- the stages after a swap
abbrev pub is_late : Stage → Bool
is_late s = (info s).late

-- the chosen one is promoted, or was
abbrev pub Leads : Recovery → Stage → Type 0
Leads r s = (r.outcome.promoted ≡ r.chosen) ⊎ ((is_late s ≡ true) × HasSwapped r)

-- a follower is attached to the chosen server, or is that one
abbrev pub FollowsBy : Option ServerNo → Option ServerNo → Follower → Type 0
FollowsBy chosen promoted x = (chosen ≡ Some x.source) ⊎ ((chosen ≡ Some x.no) × (promoted ≡ Some x.source))

-- ---- the states of servers

abbrev pub IsLost : Recovery → ServerNo → Type 0
IsLost r n = 0 < times n.0 (lost_nos r.outcome.lost)

-- what each task may count on
abbrev pub Awaits : World → Recovery → Task → Type 0
Awaits w r (task.Moving n by) = (r.chosen ≡ Some (target by)) × IsSourced w n.0 × (is_intermediate r.purpose ≡ false)
Awaits w r (task.Expelling n) = IsLost r n × IsSourced w n.0
Awaits w r task.Handing = is_intermediate r.purpose ≡ true
Awaits w r (task.Trailing n) = is_takeover r.purpose ≡ true
Awaits w r task.Yielding = is_takeover r.purpose ≡ true
Awaits w r (task.Reading n) = Unit {0}
Awaits w r (task.Draining n) = Unit {0}
Awaits w r task.Choosing = Unit {0}
Awaits w r task.Sorting = Unit {0}
Awaits w r (task.Releasing n) = Unit {0}

-- the chosen one is promoted, and nothing else is left to do
pub record IsLast (r : Recovery) (p : ServerNo) : Type 0 where
  pub chosen : r.chosen ≡ Some p
  pub promoted : r.outcome.promoted ≡ Some p
  pub queue : r.queue ≡ []
  pub drained : r.drained ≡ []

-- in a takeover the old master follows the designated one
abbrev pub OldFollows : Purpose → ServerNo → List Follower → Type 0
OldFollows purpose.Regroup f xs = Unit {0}
OldFollows purpose.Master f xs = Unit {0}
OldFollows (purpose.Intermediate s) f xs = Unit {0}
OldFollows (purpose.Takeover d) f xs = Contains xs (record { no = f; source = d })

-- a server is promoted, and nothing else is left to do
pub record IsPromoted (r : Recovery) (n : ServerNo) : Type 0 where
  pub promoted : r.outcome.promoted ≡ Some n
  pub queue : r.queue ≡ []
  pub drained : r.drained ≡ []
  pub old : OldFollows r.purpose r.failed r.outcome.followers

-- in a master's place
pub record IsCrowned (r : Recovery) (n : ServerNo) : Type 0 where
  pub promoted : IsPromoted r n
  pub crowns : crowns r.purpose ≡ true

-- at the end
pub record IsClosed (w : World) (r : Recovery) : Type 0 where
  pub no : ServerNo
  pub promoted : IsPromoted r no
  pub rules : crowns r.purpose ≡ true → IsRuling w no.0

-- the designated one is to take this master's place
pub record IsGiving (r : Recovery) (m d : ServerNo) : Type 0 where
  pub takeover : is_takeover r.purpose ≡ true
  pub failed : r.failed ≡ m
  pub chosen : r.chosen ≡ Some d

abbrev pub Holds : World → Recovery → Standing → Type 0
Holds w r standing.InMastersPlace = is_master r.purpose ≡ true
Holds w r standing.InTakeover = is_takeover r.purpose ≡ true
Holds w r standing.Undecided = decides r.queue ≡ true
Holds w r (standing.Chosen p) = r.chosen ≡ Some p
Holds w r (standing.Last p) = IsLast r p
Holds w r (standing.Crowned n) = IsCrowned r n
Holds w r (standing.Giving m d) = IsGiving r m d
Holds w r standing.Closed = IsClosed w r
Holds w r (standing.Told lines) = lines ≡ result_lines r
Holds w r (standing.Follower q) = 0 < times q.0 (follower_nos r.outcome.followers)
Holds w r (standing.Lost n) = IsLost r n
Holds w r (standing.AsSeen n) = IsSourcedAsSeen w r.core.seen n
Holds w r (standing.WayRead by) = Reads r.core.seen by
Holds w r (standing.Sourced n) = IsSourced w n.0
Holds w r (standing.Under n p) = IsUnder w n.0 p.0
Holds w r (standing.Apart n) = IsApart w n.0
Holds w r (standing.Free n) = IsFree w n.0
Holds w r (standing.Ruling n) = IsRuling w n.0

-- all of them, side by side
abbrev pub AllHold : World → Recovery → List Standing → Type 0
AllHold w r [] = Unit {0}
AllHold w r (a ∷ []) = Holds w r a
AllHold w r (a ∷ b ∷ []) = Holds w r a × Holds w r b
AllHold w r (a ∷ b ∷ c ∷ []) = Holds w r a × Holds w r b × Holds w r c
AllHold w r (a ∷ b ∷ c ∷ d ∷ ds) = Holds w r a × Holds w r b × Holds w r c × AllHold w r (d ∷ ds)

-- the states of a stage's servers
abbrev pub Stands : World → Recovery → Stage → Type 0
Stands w r s = AllHold w r (info s).stands

-- ---- so far

-- A recovery at a stage covers its replicas so far: each has one place. The choice comes before anybody leads, and
-- nobody is drained without a decision to come. The new source is the one that was named, and so is the one whose stop
-- was seen. Who is to move or to be detached has a source. Followers are attached to their sources, and the lost are as
-- reported.
pub record CoversAt (w : World) (r : Recovery) (s : Stage) : Type 0 where
  pub replicas : AreReplicas r.purpose r.failed r.replicas
  pub once : (n : ℕ) → total n r s ≡ times n (owed r.purpose r.failed r.replicas)
  pub order : in_order r.queue ≡ true
  pub unchosen : chooses r.queue ≡ true → (r.chosen ≡ None) × (r.outcome.promoted ≡ None)
  pub undrained : decides r.queue ≡ false → r.drained ≡ []
  pub named : IfSome (first_source r.purpose) (λ n. r.chosen ≡ Some n)
  pub lead : IfSome r.lead (λ b. r.chosen ≡ Some b.no)
  pub leads : Leads r s
  pub drained : All (λ d. IsSourced w d.no.0) r.drained
  pub queue : All (Awaits w r) r.queue
  pub stage : Stands w r s
  pub attached : All (λ x. IsUnder w x.no.0 x.source.0) r.outcome.followers
  pub follow : All (FollowsBy r.chosen r.outcome.promoted) r.outcome.followers
  pub sourced : All (λ l. expels r.purpose (Some l.why) ≡ true → IsSourced w l.no.0) r.outcome.lost
  pub apart : All (λ l. l.detached ≡ true → IsApart w l.no.0) r.outcome.lost

-- a recovery under way does; if it has no operation it has no stage, and a move to a bridge's source is made before
-- anything else
pub record CoversSoFar (w : World) (r : Recovery) : Type 0 where
  pub at : CoversAt w r r.stage
  pub rests : r.core.ops ≡ [] → r.stage ≡ stage.Idle
  pub moves : (n : ServerNo) (b : Bridge) → r.stage ≡ stage.Move n (way.Up b) → r.core.ops ≡ tail_of (stage.Move n (way.Up b))
