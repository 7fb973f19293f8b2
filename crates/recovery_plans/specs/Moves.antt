-- A turn of a recovery as a list of moves, each under its guard: what is decided, at most one operation, and what its
-- end makes of the recovery.
use Rattle.std.specs.Prelude.{◌≡◌, ℕ, Bool, true, false, ◌⊎◌, if◌then◌else◌, List, [], ◌∷◌, ◌++◌, map, Option, Some, None, IfSome}
use Rattle.recovery_plans.specs.Prelude.{BookState, Bridge, Cause, Exchange, Job, Line, Moment, Observation, Op, Position, ServerNo, World, bridge_at}
use Rattle.recovery_plans.specs.Prelude.{by_deed, deed_of, ended, same_coord, seen_of}
use Rattle.recovery_plans.specs.Prelude.attempt
use Rattle.recovery_plans.specs.Prelude.cause
use Rattle.recovery_plans.specs.Prelude.cross
use Rattle.recovery_plans.specs.Prelude.op
use Rattle.recovery_plans.specs.Prelude.step
use Rattle.recovery_plans.specs.declared.outcome.Stopped.{Stopped}
use Rattle.recovery_plans.specs.declared.purpose.Purpose.{Purpose}
use Rattle.recovery_plans.specs.declared.purpose.Purpose.TheVariants as purpose
use Rattle.recovery_plans.specs.declared.stage.Stage.{Stage}
use Rattle.recovery_plans.specs.declared.stage.Stage.TheVariants as stage
use Rattle.recovery_plans.specs.declared.task.Task.{Task}
use Rattle.recovery_plans.specs.declared.task.Task.TheVariants as task
use Rattle.recovery_plans.specs.declared.task.Way.{Way}
use Rattle.recovery_plans.specs.declared.task.Way.TheVariants as way
use Rattle.recovery_plans.specs.declared.why.Why.{Why}
use Rattle.recovery_plans.specs.Whys as lost
use Rattle.recovery_plans.specs.Recoveries.{Recovery, follows, loses, working}
use Rattle.recovery_plans.specs.Table.{info, is_nothing, more_on}
use Rattle.recovery_plans.specs.Stages.{drain, gather, level, trail, with_bridge}
use Rattle.recovery_plans.specs.Deciding.{Ground, better_of, choose, chosen_of, closing, crown, ground_of, look_at, moving, rejoin, sort, stuck, way_below, yield}
use Rattle.recovery_plans.specs.Taking as taking
use Rattle.recovery_plans.specs.Taking.{Fate, Taken, barred_by, expelled, fails, fate, frees, goes_on, idle, is_below, is_waiting, last_looks, lead_under, spot_seen, stepped, swapped}

-- ---- what is decided

-- What is decided if no operation is left, with the tasks after the next one.
pub data Decision : Type 0 where
  -- a server is read; a replica is drained, goes below its new source, is detached, is started
  Reads : (n : ServerNo) (ts : List Task) → Decision
  Drains : (n : ServerNo) (ts : List Task) → Decision
  Sends : (n : ServerNo) (by : Way) (ts : List Task) → Decision
  Expels : (n : ServerNo) (ts : List Task) → Decision
  Releases : (n : ServerNo) (ts : List Task) → Decision
  -- a replica is read that is to come to the position at which the designated one stopped; that one takes its master's
  -- place
  Looks : (n : ServerNo) (x : Bridge) (ts : List Task) → Decision
  Yields : (x : Bridge) (ts : List Task) → Decision
  -- nobody knows the position at which the designated one stopped
  Sticks : (t : Task) (ts : List Task) → Decision
  -- this one of the drained is chosen, or none of them
  Chooses : (p : Stopped) (ts : List Task) → Decision
  ChoosesNobody : (ts : List Task) → Decision
  -- the first of the drained goes some way below the successor, or has none; all are handed over; there is no successor
  Hands : (d : Stopped) (ds : List Stopped) (by : Way) (ts : List Task) → Decision
  Leaves : (d : Stopped) (ds : List Stopped) (ts : List Task) → Decision
  HandedOver : (ts : List Task) → Decision
  Passes : (ts : List Task) → Decision
  -- what is done with the lost
  Sorts : (ts : List Task) → Decision
  -- a better one is to take the promoted one's place, or there is none
  Levels : (p q : ServerNo) → Decision
  Remains : Decision
  -- the chosen one takes writes, or is started; nothing more is changed
  Crowns : (p : ServerNo) → Decision
  Rejoins : (p : ServerNo) → Decision
  Closes : Decision

abbrev pub decided_by : Ground → Recovery → Decision → Recovery
decided_by g r (Reads n ts) = working (record r { queue = ts }) (stage.Read n) (op.Status n None ∷ [])
decided_by g r (Drains n ts) = working (record r { queue = ts }) (stage.Drain n) (drain n)
decided_by g r (Sends n by ts) = moving (record r { queue = ts }) n by
decided_by g r (Expels n ts) = working (record r { queue = ts }) (stage.Expel n) (op.Detach n ∷ [])
decided_by g r (Releases n ts) = working (record r { queue = ts }) (stage.Release n) (op.Start n ∷ [])
decided_by g r (Looks n x ts) = look_at (record r { queue = ts }) n (Some x)
decided_by g r (Yields x ts) = yield (record r { queue = ts }) (Some x)
decided_by g r (Sticks t ts) = stuck r
decided_by g r (Chooses p ts) = choose g (record r { queue = ts }) (Some p)
decided_by g r (ChoosesNobody ts) = choose g (record r { queue = ts }) None
decided_by g r (Hands d ds by ts) = moving (record r { drained = ds }) d.no by
decided_by g r (Leaves d ds ts) = record (loses r d.no (lost.behind d.exec)) { drained = ds }
decided_by g r (HandedOver ts) = record r { queue = ts; drained = [] }
decided_by g r (Passes ts) = record r { queue = ts }
decided_by g r (Sorts ts) = sort (record r { queue = ts })
decided_by g r (Levels p q) = working (record r { swaps = false }) (stage.Level p q) (level p q)
decided_by g r Remains = record r { swaps = false }
decided_by g r (Crowns p) = crown r (Some p)
decided_by g r (Rejoins p) = rejoin r (Some p)
decided_by g r Closes = closing r []

-- no operation is left, and this is the next task, with those after it
pub record IsNext (r : Recovery) (t : Task) (ts : List Task) : Type 0 where
  pub rests : r.core.ops ≡ []
  pub queue : r.queue ≡ t ∷ ts

-- no operation and no task is left, in a recovery for this purpose
pub record IsOver (r : Recovery) (u : Purpose) : Type 0 where
  pub rests : r.core.ops ≡ []
  pub queue : r.queue ≡ []
  pub purpose : r.purpose ≡ u

-- the next is to be handed over to the chosen one, some way or none
pub record IsHanding (g : Ground) (r : Recovery) (d : Stopped) (ds : List Stopped) (o : Option Way) (ts : List Task) : Type 0 where
  pub next : IsNext r task.Handing ts
  pub drained : r.drained ≡ d ∷ ds
  pub source : ServerNo
  pub chosen : r.chosen ≡ Some source
  pub way : way_below g r.core.seen r.failed source d ≡ o

-- tasks that go by the position at which the designated one stopped
abbrev pub follows_lead : Task → Bool
follows_lead (task.Trailing n) = true
follows_lead task.Yielding = true
follows_lead (task.Reading n) = false
follows_lead (task.Draining n) = false
follows_lead task.Choosing = false
follows_lead task.Handing = false
follows_lead (task.Moving n by) = false
follows_lead task.Sorting = false
follows_lead (task.Expelling n) = false
follows_lead (task.Releasing n) = false

-- none of the followers is better than the promoted one
abbrev pub HasNoBetter : Ground → Recovery → Type 0
HasNoBetter g r = IfSome r.chosen (λ p. better_of g r.failed p (map (λ x. x.no) r.outcome.followers) ≡ None)

-- under which guard it is decided so, by the servers' settings and the book
abbrev pub MayDecide : Ground → Recovery → Decision → Type 0
MayDecide g r (Reads n ts) = IsNext r (task.Reading n) ts
MayDecide g r (Drains n ts) = IsNext r (task.Draining n) ts
MayDecide g r (Sends n by ts) = IsNext r (task.Moving n by) ts
MayDecide g r (Expels n ts) = IsNext r (task.Expelling n) ts
MayDecide g r (Releases n ts) = IsNext r (task.Releasing n) ts
MayDecide g r (Looks n x ts) = IsNext r (task.Trailing n) ts × (r.lead ≡ Some x)
MayDecide g r (Yields x ts) = IsNext r task.Yielding ts × (r.lead ≡ Some x)
MayDecide g r (Sticks t ts) = IsNext r t ts × (follows_lead t ≡ true) × (r.lead ≡ None)
MayDecide g r (Chooses p ts) = IsNext r task.Choosing ts × (chosen_of g r.failed r.drained ≡ Some p)
MayDecide g r (ChoosesNobody ts) = IsNext r task.Choosing ts × (chosen_of g r.failed r.drained ≡ None)
MayDecide g r (Hands d ds by ts) = IsHanding g r d ds (Some by) ts
MayDecide g r (Leaves d ds ts) = IsHanding g r d ds None ts
MayDecide g r (HandedOver ts) = IsNext r task.Handing ts × (r.drained ≡ []) × (r.chosen ≡ None → ⊥)
MayDecide g r (Passes ts) = IsNext r task.Handing ts × (r.chosen ≡ None)
MayDecide g r (Sorts ts) = IsNext r task.Sorting ts
MayDecide g r (Levels p q) =
    IsOver r purpose.Master × (r.swaps ≡ true) × (r.chosen ≡ Some p)
    × (better_of g r.failed p (map (λ x. x.no) r.outcome.followers) ≡ Some q)
MayDecide g r Remains = IsOver r purpose.Master × (r.swaps ≡ true) × HasNoBetter g r
MayDecide g r (Crowns p) = IsOver r purpose.Master × (r.swaps ≡ false) × (r.chosen ≡ Some p)
MayDecide g r (Rejoins p) = IsOver r purpose.Regroup × (r.chosen ≡ Some p)
MayDecide g r Closes = (s : ServerNo) × IsOver r (purpose.Intermediate s)

-- one decision after another
pub data Decisions (g : Ground) : Recovery → Recovery → Type 0 where
  Still : {r : Recovery} → Decisions g r r
  Then : {r s : Recovery} (d : Decision) → MayDecide g r d → Decisions g (decided_by g r d) s → Decisions g r s

-- ---- an operation

-- an operation is done, or is one more wait, and nothing that is seen ends the recovery
pub record Does (w : World) (read : ℕ) (now : Moment) (r : Recovery) (o : Op) (rest : List Op) (ob : Option Observation) (es : List Exchange) (j : Job) : Type 0 where
  pub ops : r.core.ops ≡ o ∷ rest
  pub goes : by_deed w read now r.core rest (deed_of o) ≡ attempt.Goes ob es j
  pub free : barred_by r.stage r.failed j.seen ≡ None

-- an operation fails for a cause
pub record Stops (w : World) (read : ℕ) (now : Moment) (r : Recovery) (o : Op) (rest : List Op) (c : Cause) (ob : Option Observation) : Type 0 where
  pub ops : r.core.ops ≡ o ∷ rest
  pub stops : by_deed w read now r.core rest (deed_of o) ≡ attempt.Stops c ob

-- ---- the end of a stage

-- What the end of a stage makes of the recovery.
pub data Ending : Type 0 where
  -- nothing
  Rests : Ending
  -- a replica is drained, if it was seen; is lost; is lost and started
  Stays : (n : ServerNo) (s : Position) → Ending
  Loses : (n : ServerNo) (why : Why) → Ending
  Frees : (n : ServerNo) (why : Why) → Ending
  -- a replica follows its new source; a lost one is marked as detached
  Follows : (n p : ServerNo) → Ending
  Marks : (n : ServerNo) → Ending
  -- the position at which the designated one stopped
  Leads : (d : ServerNo) → Ending
  -- a replica goes to the position at which the designated one stopped, and from there below it
  Trails : (n : ServerNo) (x : Bridge) → Ending
  Joins : (n : ServerNo) (x : Bridge) → Ending
  -- the better one takes the promoted one's place; the designated one its master's
  Swaps : (p q : ServerNo) → Ending
  Switches : (m d : ServerNo) → Ending
  -- a master that is to give up its place takes no more writes; nothing more is changed
  Shuts : (m d : ServerNo) → Ending
  Ends : (n : ServerNo) → Ending

-- a replica as it was seen when it was stopped
abbrev pub stopped_at : ServerNo → Position → Stopped
stopped_at n s = record { no = n; exec = s.exec; own_end = s.own_end }

abbrev pub ended_by : Recovery → Ending → Recovery
ended_by r Rests = idle r
ended_by r (Stays n s) = idle (record r { drained = r.drained ++ stopped_at n s ∷ [] })
ended_by r (Loses n why) = idle (loses r n why)
ended_by r (Frees n why) = frees r n why
ended_by r (Follows n p) = idle (follows r n p)
ended_by r (Marks n) = idle (expelled r n)
ended_by r (Leads d) = idle (record r { lead = lead_under r.failed (bridge_at d (seen_of r.core.seen d.0)) })
ended_by r (Trails n x) = working (record r { core = record r.core { seen = with_bridge r.core.seen x } }) (stage.Trail n x) (trail n x.no)
ended_by r (Joins n x) = moving r n (way.Down x)
ended_by r (Swaps p q) = working (swapped r p q) (stage.Open q) (op.Start p ∷ op.ReadOnly q false ∷ [])
ended_by r (Switches m d) = working (follows r m d) (stage.Open d) (op.ReadOnly d false ∷ [])
ended_by r (Shuts m d) = working r (stage.Shut m d) (op.ReadOnly m true ∷ gather m d)
ended_by r (Ends n) = closing r (last_looks r r.purpose n)

-- stages whose end makes nothing
abbrev pub rests : Stage → Bool
rests s = is_nothing (info s).made

-- a replica that was read: it wasn't reached, or is elsewhere
abbrev pub stray : ServerNo → Option Position → Option Why
stray f None = Some lost.unreachable
stray f (Some s) = if is_below s f then None else Some (lost.moved (spot_seen s.source s.exec))

-- one that was to come to the position at which another stopped: it wasn't reached, or is lost as `behind`
abbrev pub late : Bridge → Option Position → Option Why
late x None = Some lost.unreachable
late x (Some s) = if same_coord s.exec x.exec then None else Some (lost.behind s.exec)

-- the replica of a stage at whose end it was read
abbrev pub WasRead : Stage → ServerNo → Type 0
WasRead s n = (s ≡ stage.Judged n) ⊎ ((x : Bridge) × (s ≡ stage.Looked n x))

-- under which guard a stage ends so
abbrev pub MayEnd : Recovery → Ending → Type 0
MayEnd r Rests = rests r.stage ≡ true
MayEnd r (Stays n s) = (r.stage ≡ stage.Judged n) × (seen_of r.core.seen n.0 ≡ Some s) × (is_below s r.failed ≡ true)
MayEnd r (Loses n why) = WasRead r.stage n × (stray r.failed (seen_of r.core.seen n.0) ≡ Some why)
MayEnd r (Frees n why) = (x : Bridge) × (r.stage ≡ stage.Halted n x) × (late x (seen_of r.core.seen n.0) ≡ Some why)
MayEnd r (Follows n p) = (r.stage ≡ stage.Join n p) ⊎ (r.stage ≡ stage.Resume p n)
MayEnd r (Marks n) = r.stage ≡ stage.Expelled n
MayEnd r (Leads d) = (m : ServerNo) × (r.stage ≡ stage.Gather m d)
MayEnd r (Trails n x) = (r.stage ≡ stage.Looked n x) × (stray r.failed (seen_of r.core.seen n.0) ≡ None)
MayEnd r (Joins n x) = (r.stage ≡ stage.Halted n x) × (late x (seen_of r.core.seen n.0) ≡ None)
MayEnd r (Swaps p q) = r.stage ≡ stage.Swapped p q
MayEnd r (Switches m d) = r.stage ≡ stage.Switched m d
MayEnd r (Shuts m d) = r.stage ≡ stage.Meet m d
MayEnd r (Ends n) = r.stage ≡ stage.Opened n

-- a stage with an operation left goes on; another ends
pub data AtEnd : Recovery → Recovery → Type 0 where
  Continues : {r : Recovery} (x : Op) (xs : List Op) → r.core.ops ≡ x ∷ xs → AtEnd r r
  Completes : {r : Recovery} (e : Ending) → r.core.ops ≡ [] → MayEnd r e → AtEnd r (ended_by r e)

-- ---- a failing operation

-- what is made of the recovery if it goes on
abbrev pub borne : Recovery → Fate → Recovery
borne r taking.Fails = r
borne r taking.Drops = working r stage.Idle []
borne r (taking.Loses n why) = working (loses r n why) stage.Idle []
borne r (taking.Frees n why) = frees r n why
borne r (taking.Goes s ops) = working r s ops

-- What is made of a recovery by a failing operation, after which it goes on.
pub data Bearing : Type 0 where
  -- nothing more is done with the server
  Drops : Bearing
  -- the replica is lost; is lost and started
  Misses : (n : ServerNo) (why : Why) → Bearing
  Lets : (n : ServerNo) (why : Why) → Bearing
  -- the better one is started again in its place, or goes back below the promoted one
  Restarts : (p q : ServerNo) → Bearing
  Returns : (p q : ServerNo) → Bearing

abbrev pub fate_of : Bearing → Fate
fate_of Drops = taking.Drops
fate_of (Misses n why) = taking.Loses n why
fate_of (Lets n why) = taking.Frees n why
fate_of (Restarts p q) = taking.Goes (stage.Release q) (op.Start q ∷ [])
fate_of (Returns p q) = taking.Goes (stage.Return p q) (op.Cross cross.Back q p ∷ op.Start q ∷ [])

-- at which stage
abbrev pub MayBear : Stage → Bearing → Type 0
MayBear s Drops = (s ≡ stage.Check) ⊎ ((n : ServerNo) × ((s ≡ stage.Expel n) ⊎ (s ≡ stage.Release n)))
MayBear s (Misses n why) = (s ≡ stage.Drain n) ⊎ (((by : Way) × (s ≡ stage.Move n by)) ⊎ ((p : ServerNo) × (s ≡ stage.Join n p)))
MayBear s (Lets n why) = ((by : Way) × (s ≡ stage.Move n by) × (more_on by ≡ 1)) ⊎ ((x : Bridge) × ((s ≡ stage.Look n x) ⊎ (s ≡ stage.Trail n x)))
MayBear s (Restarts p q) = s ≡ stage.Level p q
MayBear s (Returns p q) = s ≡ stage.Swap p q

-- why the recovery fails: there is no new source; what is seen ends it; or an operation fails at whose stage it can't
-- go on
pub data FailsFor (w : World) (read : ℕ) (now : Moment) (r : Recovery) : Cause → Option Observation → Type 0 where
  NoSource : r.core.ops ≡ [] → FailsFor w read now r cause.NoCandidate None
  Barred : {c : Cause} {ob : Option Observation} (o : Op) (rest : List Op) (es : List Exchange) (j : Job) → r.core.ops ≡ o ∷ rest
      → by_deed w read now r.core rest (deed_of o) ≡ attempt.Goes ob es j → barred_by r.stage r.failed j.seen ≡ Some c → FailsFor w read now r c ob
  Fatal : {c : Cause} {ob : Option Observation} (o : Op) (rest : List Op) → Stops w read now r o rest c ob → fate w r.purpose r.stage c ≡ taking.Fails
      → FailsFor w read now r c ob

-- ---- a turn

abbrev pub done : Recovery → List Line → Taken
done r lines = record { step = step.Done lines; observation = None; exchanges = []; recovery = record r { core = ended r.core } }

-- A turn comes to this: after what is decided it waits; an operation is done; one fails, and the recovery goes on; the
-- recovery fails; or it is done.
pub data Turning (w : World) (b : BookState) (read : ℕ) (now : Moment) (r : Recovery) : Taken → Type 0 where
  Waits : {d : Recovery} → Decisions (ground_of w b now) r d → (o : Op) (rest : List Op) (ob : Option Observation) (es : List Exchange) (j : Job)
      → Does w read now d o rest ob es j → is_waiting j ≡ true → Turning w b read now r (goes_on ob es (record d { core = j }))
  Acts : {d s : Recovery} → Decisions (ground_of w b now) r d → (o : Op) (rest : List Op) (ob : Option Observation) (es : List Exchange) (j : Job)
      → Does w read now d o rest ob es j → is_waiting j ≡ false → AtEnd (stepped (record d { core = j }) o) s
      → Turning w b read now r (goes_on ob es s)
  Bears : {d : Recovery} → Decisions (ground_of w b now) r d → (o : Op) (rest : List Op) (c : Cause) (ob : Option Observation) (e : Bearing)
      → Stops w read now d o rest c ob → fate w d.purpose d.stage c ≡ fate_of e → MayBear d.stage e → Turning w b read now r (goes_on ob [] (borne d (fate_of e)))
  Fails : {d : Recovery} → Decisions (ground_of w b now) r d → (c : Cause) (ob : Option Observation) → FailsFor w read now d c ob
      → Turning w b read now r (fails w d c ob)
  Finishes : {d : Recovery} → Decisions (ground_of w b now) r d → (o : Op) (rest : List Op) (lines : List Line) → d.core.ops ≡ o ∷ rest
      → by_deed w read now d.core rest (deed_of o) ≡ attempt.Ends lines → Turning w b read now r (done d lines)
