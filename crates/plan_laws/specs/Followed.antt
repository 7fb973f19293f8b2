-- The turns of recoveries and regroups in which everything is found as their plans assume.
use Rattle.std.specs.Prelude.{◌≡◌, ◌==◌, ◌⊎◌, if◌then◌else◌, ℕ, Bool, true, false, List, [], ◌∷◌, ◌++◌, map, All, Option, Some, None}
use Rattle.plan_laws.specs.Prelude.{BookState, Coord, Course, Done, Event, Follows, Ground, IsNext, LostReplica, Lot, Means, Missed, Op, Place}
use Rattle.plan_laws.specs.Prelude.{Purpose, Recovery, ServerNo, Stopped, Task, Way, before, begun_recovery, better_of, chosen_of, expected}
use Rattle.plan_laws.specs.Prelude.{expected_at, ground_at, instance_at, is_before, is_refused, is_takeover, is_valid, lot_by, move, recovery_lines}
use Rattle.plan_laws.specs.Prelude.{stopped_in, way_below, way_of, without_stopped}
use Rattle.plan_laws.specs.Prelude.lot
use Rattle.plan_laws.specs.Prelude.op
use Rattle.plan_laws.specs.Prelude.purpose
use Rattle.plan_laws.specs.Prelude.stage
use Rattle.plan_laws.specs.Prelude.task
use Rattle.plan_laws.specs.Prelude.way
use Rattle.plan_laws.specs.Prelude.why

-- ---- branches

-- the operations of a way
abbrev pub steps_of : ServerNo → Option Way → Option (List Op)
steps_of n None = None
steps_of n (Some by) = Some (before by n ++ move by n ∷ [])

-- what becomes of a replica beside the chosen one: it goes by these operations; this one is refused; it is lost before
pub data Path : Type 0 where
  Goes : (ops : List Op) → Path
  Refused : (o : Op) → Path
  Left : Path

abbrev pub path_by : Stopped → Stopped → Lot → Path
path_by p s (lot.Goes by) = if is_refused p s by then Refused (move by s.no) else Goes (before by s.no ++ move by s.no ∷ [])
path_by p s (lot.Stays why) = Left

-- a replica beside the chosen one
pub record Fork : Type 0 where
  pub no : ServerNo
  pub path : Path

abbrev pub fork_of : Stopped → Stopped → Lot → Fork
fork_of p s l = record { no = s.no; path = path_by p s l }

-- the chosen one, and what becomes of the others, in their order
pub record Branch : Type 0 where
  pub chosen : ServerNo
  pub others : List Fork

abbrev pub branch_at : Ground → Means → ServerNo → List Stopped → Option Stopped → Option Branch
branch_at g by f ds None = None
branch_at g by f ds (Some p) = Some (record { chosen = p.no; others = map (λ s. fork_of p s (lot_by by g f p s)) (without_stopped ds p.no) })

abbrev pub branch_of : Ground → Means → ServerNo → List Stopped → Option Branch
branch_of g by f ds = branch_at g by f ds (chosen_of g f ds)

-- the operations that bring a replica below a successor, if it is expected to stop somewhere
abbrev pub steps_below : Ground → ServerNo → ServerNo → ServerNo → Option Stopped → Option (List Op)
steps_below g f s n None = None
steps_below g f s n (Some d) = steps_of n (way_of g f s d)

abbrev pub steps_to : Ground → ServerNo → ServerNo → ServerNo → Option (List Op)
steps_to g f s n = steps_below g f s n (expected_at n (instance_at g.book n))

-- ---- what a plan assumes

-- What a plan assumes as a turn begins. Of any followers the same one is better than any server as for the plan. If a
-- replica is to be chosen, the branch is the expected one. If replicas are to be handed over to a successor, each of
-- them goes the way that the plan expects.
pub record IsAsPlanned (g : Ground) (by : Means) (f : ServerNo) (ns : List ServerNo) (a : Place) (r : Recovery) : Type 0 where
  pub better : (p : ServerNo) (qs : List ServerNo) → better_of (ground_at a) f p qs ≡ better_of g f p qs
  pub chosen : (ts : List Task) → IsNext r task.Choosing ts → branch_of (ground_at a) by f r.drained ≡ branch_of g by f (expected g.book ns)
  pub handed : (ts : List Task) (s : ServerNo) → IsNext r task.Handing ts → r.chosen ≡ Some s
      → All (λ d. steps_of d.no (way_below (ground_at a) r.core.seen f s d) ≡ steps_to g f s d.no) r.drained

-- a coordinate is after that of the chosen one
abbrev pub is_after : Option Stopped → Coord → Bool
is_after None exec = false
is_after (Some p) exec = is_before p.exec exec

abbrev pub is_ahead : Recovery → Coord → Bool
is_ahead r exec = is_after (stopped_in r.eligible r.chosen) exec

-- An operation is done, and nobody is lost by what it shows. It stops the receivers of those replicas alone that the
-- book reaches.
pub record GoesWell (b : BookState) (before : Recovery) (o : Op) (later : Recovery) : Type 0 where
  pub keeps : later.outcome.lost ≡ before.outcome.lost
  pub reached : (n : ServerNo) → o ≡ op.StopReceiver n → is_valid b n ≡ true
  pub allowed : (n to : ServerNo) (exec : Coord) → before.stage ≡ stage.Move n (way.Auto to exec) → o ≡ op.Auto n to → is_ahead before exec ≡ false

abbrev pub gone : ServerNo → LostReplica
gone n = record { no = n; why = why.unreachable; detached = false }

-- the failed server is asked first
pub record IsAsked (before : Recovery) (o : Op) : Type 0 where
  pub checks : before.stage ≡ stage.Check
  pub asks : o ≡ op.Status before.failed None

-- a replica isn't reached that the book doesn't reach, and is lost for that
pub record IsGone (b : BookState) (n : ServerNo) (before : Recovery) (o : Op) (later : Recovery) : Type 0 where
  pub drains : before.stage ≡ stage.Drain n
  pub asks : o ≡ op.StopReceiver n
  pub away : is_valid b n ≡ false
  pub lost : later.outcome.lost ≡ before.outcome.lost ++ gone n ∷ []

-- a replica that is ahead of the chosen one is refused by GTIDs, and is lost for that
pub record IsBarred (n : ServerNo) (before : Recovery) (o : Op) (later : Recovery) : Type 0 where
  pub to : ServerNo
  pub exec : Coord
  pub moves : before.stage ≡ stage.Move n (way.Auto to exec)
  pub asks : o ≡ op.Auto n to
  pub ahead : is_ahead before exec ≡ true
  pub lost : later.outcome.lost ≡ before.outcome.lost ++ record { no = n; why = why.ahead exec; detached = false } ∷ []

-- what isn't answered
abbrev pub IsMissed : BookState → ServerNo → Recovery → Op → Recovery → Type 0
IsMissed b n before o later = IsGone b n before o later ⊎ IsBarred n before o later

-- the failed server isn't reached, nor such a replica, and one that is ahead is refused; all else goes well
abbrev pub GoesAsPlanned : BookState → Recovery → Event → Recovery → Type 0
GoesAsPlanned b before (Done o) later = GoesWell b before o later
GoesAsPlanned b before (Missed o) later = IsAsked before o ⊎ ((n : ServerNo) × IsMissed b n before o later)

-- the purposes for which one of the replicas is chosen
abbrev pub gathers : Purpose → Bool
gathers purpose.Regroup = true
gathers purpose.Master = true
gathers (purpose.Intermediate s) = false
gathers (purpose.Takeover d) = false

-- no server is named twice
abbrev pub AreApart : List ServerNo → Type 0
AreApart [] = Unit {0}
AreApart (n ∷ ns) = All (λ m. (n.0 == m.0) ≡ false) ns × AreApart ns

-- the turns of a recovery or a regroup do the plan's operations, if everything is found as the plan assumes
abbrev pub RecoveriesFollowTheirPlans : Type 0
RecoveriesFollowTheirPlans = (g : Ground) (u : Purpose) (by : Means) (id wait : ℕ) (f : ServerNo) (ns order : List ServerNo) (es : List Event)
    → is_takeover u ≡ false → AreApart ns
    → Course (IsAsPlanned g by f ns) (GoesAsPlanned g.book) (begun_recovery u by id wait f ns order) es
    → Follows es (recovery_lines g u by f ns)
