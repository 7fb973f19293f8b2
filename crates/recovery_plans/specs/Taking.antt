-- The turn of a recovery, as a function.
use Rattle.std.specs.Prelude.{ℕ, Bool, true, false, ◌==◌, not, if◌then◌else◌, List, [], ◌∷◌, ◌++◌, map, Option, Some, None}
use Rattle.recovery_plans.specs.Prelude.{Attached, Attempt, BookState, Bridge, Cause, Coord, Detached, Exchange, Job, JobStep, Moment, Observation}
use Rattle.recovery_plans.specs.Prelude.{Op, Position, Request, Server, ServerNo, Sight, SourceState, Spot, Without, World, bridge_at, by_deed}
use Rattle.recovery_plans.specs.Prelude.{can_attach, crossing_of, deed_of, ended, has_source, restarts, same_coord, seen_of, server_at, source_no}
use Rattle.recovery_plans.specs.Prelude.{spot_below}
use Rattle.recovery_plans.specs.Prelude.asking
use Rattle.recovery_plans.specs.Prelude.attempt
use Rattle.recovery_plans.specs.Prelude.cause
use Rattle.recovery_plans.specs.Prelude.cross
use Rattle.recovery_plans.specs.Prelude.op
use Rattle.recovery_plans.specs.Prelude.spot
use Rattle.recovery_plans.specs.Prelude.step
use Rattle.recovery_plans.specs.declared.outcome.LostReplica.{LostReplica}
use Rattle.recovery_plans.specs.declared.purpose.Purpose.{Purpose}
use Rattle.recovery_plans.specs.declared.purpose.Purpose.TheVariants as purpose
use Rattle.recovery_plans.specs.declared.stage.Stage.{Stage}
use Rattle.recovery_plans.specs.declared.stage.Stage.TheVariants as stage
use Rattle.recovery_plans.specs.declared.task.Way.{Way}
use Rattle.recovery_plans.specs.declared.task.Way.TheVariants as way
use Rattle.recovery_plans.specs.declared.why.Miss.{Miss}
use Rattle.recovery_plans.specs.declared.why.Miss.TheVariants as miss
use Rattle.recovery_plans.specs.declared.why.Why.{Why}
use Rattle.recovery_plans.specs.Whys as lost
use Rattle.recovery_plans.specs.Recoveries.{Recovery, follows, follows_no_more, loses, working}
use Rattle.recovery_plans.specs.Stages.{ends, gather, leaver, moved, trail, with_bridge}
use Rattle.recovery_plans.specs.Table as table
use Rattle.recovery_plans.specs.Table.{Back, Bar, Failing, Made, info}
use Rattle.recovery_plans.specs.Deciding.{closing, decided, ground_of, moving}

-- What a turn comes to, what it observed for the book, the exchanges that changed servers, and the recovery after it.
pub record Taken : Type 0 where
  pub step : JobStep
  pub observation : Option Observation
  pub exchanges : List Exchange
  pub recovery : Recovery

-- ---- the position of a server

-- the position at which a server was seen
abbrev pub spot_seen : SourceState → Coord → Spot
spot_seen Without c = spot.Nowhere
spot_seen (Attached m) c = spot.At m c
spot_seen (Detached m) c = spot.At m c

-- the position at which a server is
abbrev pub spot_by : Option Server → Spot
spot_by None = spot.Nowhere
spot_by (Some s) = spot_below s s.source

-- how far a server has executed its source's log
abbrev pub exec_by : Option Server → Coord
exec_by None = record { file = 1; pos = 4 }
exec_by (Some s) = s.exec

abbrev pub is_source : Option ℕ → ServerNo → Bool
is_source None f = false
is_source (Some m) f = m == f.0

abbrev pub is_below : Position → ServerNo → Bool
is_below s f = is_source (source_no s.source) f

-- ---- a stage that is done

-- a replica that was stopped is drained if its source is the failed server; else it is lost
abbrev pub judged : Recovery → ServerNo → Option Position → Recovery
judged r n None = loses r n lost.unreachable
judged r n (Some s) =
    if is_below s r.failed then record r { drained = r.drained ++ record { no = n; exec = s.exec; own_end = s.own_end } ∷ [] }
    else loses r n (lost.moved (spot_seen s.source s.exec))

-- a lost one is marked as detached
abbrev pub marked : ServerNo → LostReplica → LostReplica
marked n l = if l.no.0 == n.0 then record l { detached = true } else l

abbrev pub expelled : Recovery → ServerNo → Recovery
expelled r n = record r { outcome = record r.outcome { lost = map (marked n) r.outcome.lost } }

-- the better one takes the promoted one's place
abbrev pub swapped : Recovery → ServerNo → ServerNo → Recovery
swapped r p q = record (follows r p q) { outcome = record (follows r p q).outcome { promoted = Some q } }

-- what was seen of the designated replica, if it is below the master
abbrev pub lead_under : ServerNo → Option Bridge → Option Bridge
lead_under m None = None
lead_under m (Some b) = if b.source.0 == m.0 then Some b else None

abbrev pub gathered : Recovery → ServerNo → Recovery
gathered r d = record r { lead = lead_under r.failed (bridge_at d (seen_of r.core.seen d.0)) }

abbrev pub idle : Recovery → Recovery
idle r = record r { stage = stage.Idle }

-- a lost one is started at once
abbrev pub frees : Recovery → ServerNo → Why → Recovery
frees r n why = working (loses r n why) (stage.Release n) (op.Start n ∷ [])

-- a replica of the master goes to the position at which the designated one stopped; one that is elsewhere is lost
abbrev pub looked : Recovery → ServerNo → Bridge → Option Position → Recovery
looked r n b None = idle (loses r n lost.unreachable)
looked r n b (Some s) =
    if is_below s r.failed then working (record r { core = record r.core { seen = with_bridge r.core.seen b } }) (stage.Trail n b) (trail n b.no)
    else idle (loses r n (lost.moved (spot_seen s.source s.exec)))

-- one that is there goes below the designated one; another is lost as `behind`
abbrev pub halted : Recovery → ServerNo → Bridge → Option Position → Recovery
halted r n b None = frees r n lost.unreachable
halted r n b (Some s) = if same_coord s.exec b.exec then moving r n (way.Down b) else frees r n (lost.behind s.exec)

-- the last readings, before the lines
abbrev pub last_looks : Recovery → Purpose → ServerNo → List Op
last_looks r purpose.Regroup n = op.Status n None ∷ []
last_looks r purpose.Master n = op.Status n None ∷ []
last_looks r (purpose.Intermediate s) n = op.Status n None ∷ []
last_looks r (purpose.Takeover d) n = op.Status r.failed None ∷ op.Status n None ∷ []

abbrev pub made_of : Recovery → Made → Recovery
made_of r table.Nothing = idle r
made_of r (table.Judged n) = idle (judged r n (seen_of r.core.seen n.0))
made_of r (table.Follows n p) = idle (follows r n p)
made_of r (table.Marked n) = idle (expelled r n)
made_of r (table.Gathered d) = idle (gathered r d)
made_of r (table.Swapped p q) = working (swapped r p q) (stage.Open q) (op.Start p ∷ op.ReadOnly q false ∷ [])
made_of r (table.Opened n) = closing r (last_looks r r.purpose n)
made_of r (table.Met m d) = working r (stage.Shut m d) (op.ReadOnly m true ∷ gather m d)
made_of r (table.Looked n b) = looked r n b (seen_of r.core.seen n.0)
made_of r (table.Halted n b) = halted r n b (seen_of r.core.seen n.0)
made_of r (table.Switched m d) = working (follows r m d) (stage.Open d) (op.ReadOnly d false ∷ [])

-- what the end of a stage makes
abbrev pub completed : Recovery → Stage → Recovery
completed r s = made_of r (info s).made

abbrev pub entered : Recovery → Stage → Recovery
entered r s = record (follows_no_more r (leaver s)) { stage = s }

abbrev pub stepped : Recovery → Op → Recovery
stepped r o = if ends r.stage (deed_of o) then entered r (moved r.stage) else r

abbrev pub at_end : Recovery → List Op → Recovery
at_end r [] = completed r r.stage
at_end r (x ∷ xs) = r

-- an operation is done, or it is one more wait
abbrev pub progressed : Recovery → Op → Bool → Recovery
progressed r o true = r
progressed r o false = let s = stepped r o in at_end s s.core.ops

-- ---- an operation that fails

pub data Fate : Type 0 where
  -- the recovery fails
  Fails : Fate
  -- nothing more is done with the server
  Drops : Fate
  -- the replica is lost; or it is started, too
  Loses : (n : ServerNo) (why : Why) → Fate
  Frees : (n : ServerNo) (why : Why) → Fate
  -- another stage takes its place
  Goes : (s : Stage) (ops : List Op) → Fate

-- What a failing operation means for the replica that it works on: it took too long; it has transactions of its own; or
-- why it isn't matched or attached.
pub data Loss : Type 0 where
  Spent : Loss
  Differs : Loss
  Missed : (m : Miss) → Loss

-- and nothing, if the recovery fails
abbrev pub loss_of : Cause → Option Loss
loss_of (cause.Unreachable n) = Some (Missed (miss.Unreachable n))
loss_of (cause.WaitSpent n) = Some Spent
loss_of (cause.Running n) = Some (Missed miss.Running)
loss_of (cause.Interfered n expected found) = Some (Missed (miss.Interfered expected found))
loss_of (cause.Errant n set) = Some Differs
loss_of (cause.Purged n first) = Some (Missed (miss.Purged first))
loss_of (cause.Loop n) = Some (Missed miss.Loop)
loss_of (cause.Moved n source) = None
loss_of (cause.Reachable n) = None
loss_of cause.NoCandidate = None
loss_of (cause.NoMark n) = Some (Missed miss.NoMark)
loss_of (cause.Mismatch n entry) = Some (Missed (miss.Mismatch entry))
loss_of (cause.HookFailed number exit) = None

-- whether a miss is that the server wasn't reached
abbrev pub is_away : Miss → Bool
is_away (miss.Unreachable n) = true
is_away miss.Running = false
is_away (miss.Interfered expected found) = false
is_away miss.Loop = false
is_away (miss.Purged first) = false
is_away miss.NoMark = false
is_away (miss.Mismatch entry) = false

abbrev pub drain_fate : ServerNo → Option Loss → Fate
drain_fate n None = Fails
drain_fate n (Some Spent) = Fails
drain_fate n (Some Differs) = Fails
drain_fate n (Some (Missed m)) = if is_away m then Loses n lost.unreachable else Fails

abbrev pub fate_of_drain : ServerNo → Cause → Fate
fate_of_drain n c = drain_fate n (loss_of c)

-- a replica that comes to the position at which another stopped: one that takes too long is lost as `behind`, at its
-- position
abbrev pub trail_fate : World → ServerNo → Option Loss → Fate
trail_fate w n None = Fails
trail_fate w n (Some Spent) = Frees n (lost.behind (exec_by (server_at w n.0)))
trail_fate w n (Some Differs) = Fails
trail_fate w n (Some (Missed m)) = if is_away m then Frees n lost.unreachable else Fails

abbrev pub fate_of_trail : World → ServerNo → Cause → Fate
fate_of_trail w n c = trail_fate w n (loss_of c)

-- a replica that is lost on its way is started at once in a takeover, and is looked after later else
abbrev pub lost_on_way : Purpose → ServerNo → Why → Fate
lost_on_way purpose.Regroup n why = Loses n why
lost_on_way purpose.Master n why = Loses n why
lost_on_way (purpose.Intermediate s) n why = Loses n why
lost_on_way (purpose.Takeover d) n why = Frees n why

-- only an attachment by GTIDs may find transactions that the new source lacks
abbrev pub fate_of_errant : Purpose → ServerNo → Way → Fate
fate_of_errant u n (way.Auto to exec) = lost_on_way u n (lost.ahead exec)
fate_of_errant u n (way.Down b) = Fails
fate_of_errant u n (way.Up b) = Fails
fate_of_errant u n (way.Match to exec every) = Fails

-- the coordinate at which a replica was to be attached; by GTIDs or a match, its own position
abbrev pub place_on : Way → Coord
place_on (way.Down b) = b.own
place_on (way.Up b) = b.exec
place_on (way.Auto to exec) = exec
place_on (way.Match to exec every) = exec

-- why a replica is lost for what it met on its way; for the rest the recovery fails
abbrev pub why_missed : World → ServerNo → Way → Miss → Option Why
why_missed w n by (miss.Unreachable k) = Some lost.unreachable
why_missed w n by miss.Running = Some (lost.moved (spot_by (server_at w n.0)))
why_missed w n by (miss.Interfered expected found) = Some (lost.moved found)
why_missed w n by miss.Loop = None
why_missed w n by (miss.Purged first) = Some (lost.purged (place_on by))
why_missed w n by miss.NoMark = None
why_missed w n by (miss.Mismatch entry) = None

abbrev pub lost_or_fails : Purpose → ServerNo → Option Why → Fate
lost_or_fails u n None = Fails
lost_or_fails u n (Some why) = lost_on_way u n why

abbrev pub missed_fate : World → Purpose → ServerNo → Way → Miss → Fate
missed_fate w u n by m = lost_or_fails u n (why_missed w n by m)

abbrev pub move_fate : World → Purpose → ServerNo → Way → Option Loss → Fate
move_fate w u n by None = Fails
move_fate w u n by (Some Spent) = Fails
move_fate w u n by (Some Differs) = fate_of_errant u n by
move_fate w u n by (Some (Missed m)) = missed_fate w u n by m

-- one that goes by a match is left in its place, for whatever cause
abbrev pub match_fate : ServerNo → Option Loss → Fate
match_fate n None = Fails
match_fate n (Some Spent) = Fails
match_fate n (Some Differs) = Fails
match_fate n (Some (Missed m)) = Loses n (lost.unmatched m)

abbrev pub way_fate : World → Purpose → ServerNo → Way → Option Loss → Fate
way_fate w u n (way.Down b) l = move_fate w u n (way.Down b) l
way_fate w u n (way.Up b) l = move_fate w u n (way.Up b) l
way_fate w u n (way.Auto to exec) l = move_fate w u n (way.Auto to exec) l
way_fate w u n (way.Match to exec every) l = match_fate n l

abbrev pub fate_of_move : World → Purpose → ServerNo → Way → Cause → Fate
fate_of_move w u n by c = way_fate w u n by (loss_of c)

abbrev pub fate_by : World → Purpose → Failing → Cause → Fate
fate_by w u table.All c = Fails
fate_by w u table.Passes c = Drops
fate_by w u (table.Drains n) c = fate_of_drain n c
fate_by w u (table.Moves n by) c = fate_of_move w u n by c
fate_by w u (table.Joins n) c = Loses n lost.unreachable
fate_by w u (table.Trails n) c = fate_of_trail w n c
fate_by w u (table.Instead s ops) c = Goes s ops

abbrev pub fate : World → Purpose → Stage → Cause → Fate
fate w u s c = fate_by w u (info s).failing c

-- ---- the way back of a takeover that fails

abbrev pub takes_writes : ServerNo → List Exchange
takes_writes m = Request m.0 (asking.SetReadOnly false) ∷ []

-- a change of source that can be made
abbrev pub that_can : World → Option Exchange → List Exchange
that_can w None = []
that_can w (Some e) = if can_attach w e then e ∷ [] else []

-- the designated replica goes back below its master and is started; what is refused changes nothing
abbrev pub goes_back : World → List Sight → ServerNo → ServerNo → List Exchange
goes_back w seen m d = that_can w (crossing_of seen cross.Back d m) ++ (Request d.0 asking.Start ∷ takes_writes m)

-- a master that was made to refuse writes takes them again, until its replica is to take its place
abbrev pub back_by : World → List Sight → ServerNo → Back → List Exchange
back_by w seen m table.Nowhere = []
back_by w seen m table.Writes = takes_writes m
back_by w seen m (table.Whole k d) = goes_back w seen k d

abbrev pub way_back : World → List Sight → ServerNo → Stage → List Exchange
way_back w seen m s = back_by w seen m (info s).back

abbrev pub undone : World → Purpose → List Sight → ServerNo → Stage → List Exchange
undone w purpose.Regroup seen f s = []
undone w purpose.Master seen f s = []
undone w (purpose.Intermediate k) seen f s = []
undone w (purpose.Takeover d) seen f s = way_back w seen f s

-- a recovery that fails goes its way back, and starts each server that it stopped and hasn't started
abbrev pub last_exchanges : World → Recovery → List Exchange
last_exchanges w r = undone w r.purpose r.core.seen r.failed r.stage ++ restarts r.core.hands

abbrev pub fails : World → Recovery → Cause → Option Observation → Taken
fails w r c o = record { step = step.Failed c []; observation = o; exchanges = last_exchanges w r; recovery = record r { core = ended r.core } }

abbrev pub goes_on : Option Observation → List Exchange → Recovery → Taken
goes_on o es r = record { step = step.Going; observation = o; exchanges = es; recovery = r }

abbrev pub met : World → Recovery → Cause → Option Observation → Fate → Taken
met w r c o Fails = fails w r c o
met w r c o Drops = goes_on o [] (working r stage.Idle [])
met w r c o (Loses n why) = goes_on o [] (working (loses r n why) stage.Idle [])
met w r c o (Frees n why) = goes_on o [] (frees r n why)
met w r c o (Goes s ops) = goes_on o [] (working r s ops)

-- ---- a turn

abbrev pub is_waiting : Job → Bool
is_waiting j = not (j.waited == 0)

-- a master that is to give up its place has no source
abbrev pub source_cause : ServerNo → Option Position → Option Cause
source_cause m None = None
source_cause m (Some s) = if has_source s.source then Some (cause.Moved m s.source) else None

-- what is seen may end the recovery: a failed server that is reached hasn't failed
abbrev pub bar_by : Bar → ServerNo → List Sight → Option Cause
bar_by table.Never f seen = None
bar_by table.Reached f seen = Some (cause.Reachable f)
bar_by (table.Sourced m) f seen = source_cause m (seen_of seen m.0)

abbrev pub barred_by : Stage → ServerNo → List Sight → Option Cause
barred_by s f seen = bar_by (info s).bar f seen

abbrev pub on_going : World → Recovery → Op → Option Observation → List Exchange → Job → Option Cause → Taken
on_going w r o ob es j None = goes_on ob es (progressed (record r { core = j }) o (is_waiting j))
on_going w r o ob es j (Some c) = fails w r c ob

abbrev pub attempted : World → Recovery → Op → Attempt → Taken
attempted w r o (attempt.Goes ob es j) = on_going w r o ob es j (barred_by r.stage r.failed j.seen)
attempted w r o (attempt.Stops c ob) = met w r c ob (fate w r.purpose r.stage c)
attempted w r o (attempt.Ends lines) = record { step = step.Done lines; observation = None; exchanges = []; recovery = record r { core = ended r.core } }

-- without an operation there is no new source
abbrev pub acted : World → ℕ → Moment → Recovery → List Op → Taken
acted w read now r [] = fails w r cause.NoCandidate None
acted w read now r (o ∷ rest) = attempted w r o (by_deed w read now r.core rest (deed_of o))

abbrev pub settled : World → ℕ → Moment → Recovery → Taken
settled w read now r = acted w read now r r.core.ops

-- one turn, on a world and a book, with the read number and the moment of what it observes
abbrev pub taken : World → BookState → ℕ → Moment → Recovery → Taken
taken w b read now r = settled w read now (decided (ground_of w b now) r)
