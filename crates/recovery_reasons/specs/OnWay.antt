-- A recovery on its way: what its tasks, its stage and those that it has lost so far have in common.
use Rattle.std.specs.Prelude.{◌≡◌, ℕ, ◌+◌, ◌≤◌, Bool, true, false, ◌==◌, not, if◌then◌else◌, List, [], ◌∷◌, Option, Some, None, All, is_some, ◌⊎◌}
use Rattle.recovery_reasons.specs.Prelude.{Bridge, Contains, LostReplica, Op, Purpose, Recovery, ServerNo, Sight, Stage, Task, Why, closes, info}
use Rattle.recovery_reasons.specs.Prelude.{is_takeover, seen_of}
use Rattle.recovery_reasons.specs.Prelude.lost
use Rattle.recovery_reasons.specs.Prelude.op
use Rattle.recovery_reasons.specs.Prelude.purpose
use Rattle.recovery_reasons.specs.Prelude.stage
use Rattle.recovery_reasons.specs.Prelude.table
use Rattle.recovery_reasons.specs.Prelude.task
use Rattle.recovery_reasons.specs.Prelude.why

-- ---- purposes

-- recoveries that choose their new source
abbrev pub chooses : Purpose → Bool
chooses purpose.Regroup = true
chooses purpose.Master = true
chooses (purpose.Intermediate s) = false
chooses (purpose.Takeover d) = false

-- recoveries that hand over what is drained to a successor
abbrev pub hands : Purpose → Bool
hands purpose.Regroup = false
hands purpose.Master = false
hands (purpose.Intermediate s) = true
hands (purpose.Takeover d) = false

-- a server beside the designated one
abbrev pub is_beside : Purpose → ServerNo → Bool
is_beside purpose.Regroup n = false
is_beside purpose.Master n = false
is_beside (purpose.Intermediate s) n = false
is_beside (purpose.Takeover d) n = not (n.0 == d.0)

-- ---- tasks

-- so many decisions without an operation a task is
abbrev pub pauses : Task → ℕ
pauses task.Choosing = 1
pauses task.Handing = 1
pauses task.Sorting = 1
pauses (task.Reading n) = 0
pauses (task.Draining n) = 0
pauses (task.Moving n by) = 0
pauses (task.Expelling n) = 0
pauses (task.Releasing n) = 0
pauses (task.Trailing n) = 0
pauses task.Yielding = 0

abbrev pub pauses_in : List Task → ℕ
pauses_in [] = 0
pauses_in (t ∷ ts) = pauses t + pauses_in ts

-- so many decisions come when no task is left, the last with an operation: a master's recovery looks for a better one
abbrev pub pauses_last : Purpose → Bool → ℕ
pauses_last purpose.Regroup swaps = 1
pauses_last purpose.Master swaps = if swaps then 2 else 1
pauses_last (purpose.Intermediate s) swaps = 1
pauses_last (purpose.Takeover d) swaps = 1

-- a task that a recovery for this purpose may have
abbrev pub suits : Purpose → Task → Bool
suits u task.Choosing = chooses u
suits u task.Handing = hands u
suits u (task.Trailing n) = is_beside u n
suits u task.Yielding = is_takeover u
suits u (task.Reading n) = true
suits u (task.Draining n) = true
suits u (task.Moving n by) = true
suits u task.Sorting = true
suits u (task.Expelling n) = true
suits u (task.Releasing n) = true

-- ---- stages

-- the designated one takes its master's place, or has taken it
abbrev pub Yields : Stage → Type 0
Yields s =
    ((m : ServerNo) × (d : ServerNo) × ((s ≡ stage.Yield m d) ⊎ ((s ≡ stage.Switch m d) ⊎ (s ≡ stage.Switched m d))))
    ⊎ (closes s ≡ true)

-- a master that is to give up its place is read and refuses writes, and its replica comes to the end of its log
abbrev pub IsMeeting : Stage → ServerNo → ServerNo → Type 0
IsMeeting s m d = (s ≡ stage.Meet m d) ⊎ ((s ≡ stage.Shut m d) ⊎ (s ≡ stage.Gather m d))

abbrev pub IsGathering : Stage → Type 0
IsGathering s = (m : ServerNo) × (d : ServerNo) × IsMeeting s m d

-- the second is to take the first one's place
abbrev pub IsSwapping : Stage → ServerNo → ServerNo → Type 0
IsSwapping s p q = (s ≡ stage.Level p q) ⊎ ((s ≡ stage.Swap p q) ⊎ (s ≡ stage.Swapped p q))

-- ---- the lost

-- none of the drained may be promoted
abbrev pub is_unfit : Why → Bool
is_unfit (why.Lost lost.NotLogging) = true
is_unfit (why.Lost lost.MustNot) = true
is_unfit (why.Lost (lost.Ahead c)) = false
is_unfit (why.Lost (lost.Behind c)) = false
is_unfit (why.Lost (lost.Purged c)) = false
is_unfit (why.Lost lost.Unreachable) = false
is_unfit (why.Lost (lost.Moved s)) = false
is_unfit (why.Unmatched m) = false

abbrev pub AllFit : List LostReplica → Type 0
AllFit xs = All (λ l. is_unfit l.why ≡ false) xs

-- ---- on its way

-- At most four decisions without an operation follow one another. If nobody is chosen the choice is to come, and a
-- successor is chosen from the start. In a takeover the designated one is to take its master's place, or takes it. A
-- master's recovery that has looked for a better one has no task left.
pub record TasksOf (u : Purpose) (s : Stage) (ts : List Task) (source : Option ServerNo) (swaps : Bool) : Type 0 where
  pub few : pauses_in ts + pauses_last u swaps ≤ 4
  pub suited : All (λ t. suits u t ≡ true) ts
  pub chosen : chooses u ≡ true → source ≡ None → Contains ts task.Choosing
  pub yields : is_takeover u ≡ true → Contains ts task.Yielding ⊎ Yields s
  pub named : (n : ServerNo) → u ≡ purpose.Intermediate n → source ≡ Some n
  pub over : u ≡ purpose.Master → swaps ≡ false → ts ≡ []

-- In a master's recovery the chosen one is promoted until a better one was looked for. That is done if another is to
-- take its place, which is promoted until then, and if nothing is left but to open the promoted one.
pub record SwapOf (u : Purpose) (s : Stage) (chosen promoted : Option ServerNo) (swaps : Bool) : Type 0 where
  pub first : u ≡ purpose.Master → swaps ≡ true → promoted ≡ chosen
  pub taking : (p q : ServerNo) → IsSwapping s p q → (swaps ≡ false) × (chosen ≡ Some p) × (promoted ≡ Some p)
  pub closed : u ≡ purpose.Master → Yields s → swaps ≡ false

-- the successor was read, or is to be read before anything else
abbrev pub IsRead : Purpose → Stage → List Op → List Task → List Sight → Type 0
IsRead u s ops ts seen =
    (n : ServerNo) → u ≡ purpose.Intermediate n
    → (is_some (seen_of seen n.0) ≡ true) ⊎ (((xs : List Task) × (ts ≡ task.Reading n ∷ xs)) ⊎ ((s ≡ stage.Read n) × (ops ≡ op.Status n None ∷ [])))

-- If what is seen may end the recovery its operations read the failed server. A master that is to give up its place is
-- that one, for the designated one. The one whose stop was seen is the designated one. Who goes to the position at
-- which that one stopped is another.
pub record StageOf (u : Purpose) (f : ServerNo) (s : Stage) (ops : List Op) (o : Option Bridge) : Type 0 where
  pub first : ((info s).bar ≡ table.Never) ⊎ All (λ x. x ≡ op.Status f None) ops
  pub meets : (m d : ServerNo) → IsMeeting s m d → (m ≡ f) × (u ≡ purpose.Takeover d)
  pub lead : (d : ServerNo) (x : Bridge) → u ≡ purpose.Takeover d → o ≡ Some x → x.no ≡ d
  pub apart : (n : ServerNo) (x : Bridge) → (info s).lead ≡ Some x → (info s).places ≡ n ∷ [] → n.0 ≡ x.no.0 → ⊥

-- beside, nobody is lost because none may be promoted
pub record IsOnCourse (r : Recovery) : Type 0 where
  pub tasks : TasksOf r.purpose r.stage r.queue r.chosen r.swaps
  pub stage : StageOf r.purpose r.failed r.stage r.core.ops r.lead
  pub swap : SwapOf r.purpose r.stage r.chosen r.outcome.promoted r.swaps
  pub read : IsRead r.purpose r.stage r.core.ops r.queue r.core.seen
  pub fit : AllFit r.outcome.lost

-- and if no operation is left it has no stage
pub record IsOnWay (r : Recovery) : Type 0 where
  pub course : IsOnCourse r
  pub rests : r.core.ops ≡ [] → r.stage ≡ stage.Idle

-- in a takeover the position at which the designated one stopped is known once it has stopped
abbrev pub KnowsLead : Recovery → Type 0
KnowsLead r = is_takeover r.purpose ≡ true → IsGathering r.stage ⊎ (is_some r.lead ≡ true)
