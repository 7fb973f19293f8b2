-- How a turn waits, and what follows a wait.
use Rattle.std.specs.Prelude.{◌≡◌, ◌+◌, ◌<◌, ◌≤◌, true, false, List, [], ◌∷◌, ◌++◌, Option, Some, None, ◌⊎◌, option_and_then, option_map}
use Rattle.recovery_reasons.specs.Prelude.{Bridge, Coord, Decisions, EndOf, ExecOf, Ground, Op, Recovery, ServerNo, Stage, Status, Taken, Why, World, deed_of}
use Rattle.recovery_reasons.specs.Prelude.{is_at_or_before, is_below, position_of, same_coord, seen_in, seen_of, spot_seen, status}
use Rattle.recovery_reasons.specs.Prelude.cause
use Rattle.recovery_reasons.specs.Prelude.cross
use Rattle.recovery_reasons.specs.Prelude.op
use Rattle.recovery_reasons.specs.Prelude.stage
use Rattle.recovery_reasons.specs.Prelude.step
use Rattle.recovery_reasons.specs.Prelude.way
use Rattle.recovery_reasons.specs.Prelude.whys as lost
use Rattle.recovery_reasons.specs.Steps.{AreFirst, trailing, waits}

-- ---- what a turn comes to whose operation waits

-- it is one more wait, and nothing else changes
pub record IsOneMoreWait (d : Recovery) (t : Taken) : Type 0 where
  pub going : t.step ≡ step.Going
  pub made : t.exchanges ≡ []
  pub due : t.recovery.core.ops ≡ d.core.ops
  pub waited : t.recovery.core.waited ≡ d.core.waited + 1
  pub stage : t.recovery.stage ≡ d.stage
  pub outcome : t.recovery.outcome ≡ d.outcome

-- it was the last one, and the server is stopped next
pub record IsWaitOver (d : Recovery) (n : ServerNo) (t : Taken) : Type 0 where
  pub rest : List Op
  pub going : t.step ≡ step.Going
  pub made : t.exchanges ≡ []
  pub due : t.recovery.core.ops ≡ op.Stop n ∷ rest
  pub waited : t.recovery.core.waited ≡ 0
  pub stage : t.recovery.stage ≡ d.stage
  pub outcome : t.recovery.outcome ≡ d.outcome

-- the replica is lost for this, and is started next
pub record IsFreedNow (d : Recovery) (n : ServerNo) (why : Why) (t : Taken) : Type 0 where
  pub going : t.step ≡ step.Going
  pub made : t.exchanges ≡ []
  pub lost : t.recovery.outcome.lost ≡ d.outcome.lost ++ record { no = n; why = why; detached = false } ∷ []
  pub next : (t.recovery.stage ≡ stage.Release n) × (t.recovery.core.ops ≡ op.Start n ∷ [])

-- the better one is given up, and is started next
pub record IsGivenUpNow (d : Recovery) (q : ServerNo) (t : Taken) : Type 0 where
  pub going : t.step ≡ step.Going
  pub made : t.exchanges ≡ []
  pub next : (t.recovery.stage ≡ stage.Release q) × (t.recovery.core.ops ≡ op.Start q ∷ [])
  pub outcome : t.recovery.outcome ≡ d.outcome

-- the replica is lost for this, and is left as it is
pub record IsLeftNow (d : Recovery) (n : ServerNo) (why : Why) (t : Taken) : Type 0 where
  pub going : t.step ≡ step.Going
  pub made : t.exchanges ≡ []
  pub lost : t.recovery.outcome.lost ≡ d.outcome.lost ++ record { no = n; why = why; detached = false } ∷ []
  pub next : (t.recovery.stage ≡ stage.Idle) × (t.recovery.core.ops ≡ [])

-- this stage is next, and nobody is lost
pub record IsNextStage (d : Recovery) (s : Stage) (ops : List Op) (t : Taken) : Type 0 where
  pub going : t.step ≡ step.Going
  pub made : t.exchanges ≡ []
  pub next : (t.recovery.stage ≡ s) × (t.recovery.core.ops ≡ ops)
  pub outcome : t.recovery.outcome ≡ d.outcome

-- ---- how long

-- By a status: it ends if the server is there. Else it is one more wait, if it isn't the last one that the job has. So
-- it is the last one in which this comes of it.
pub record WaitsUntil (d : Recovery) (n : ServerNo) (There Spent : Type 0) (t : Taken) : Type 0 where
  pub there : There → IsWaitOver d n t
  pub again : (There → ⊥) → d.core.waited + 1 < d.core.wait → IsOneMoreWait d t
  pub spent : (There → ⊥) → d.core.wait ≤ d.core.waited + 1 → Spent

-- it has come to this coordinate, if it is known
abbrev pub HasCome : Option Coord → Coord → Type 0
HasCome None exec = ⊥
HasCome (Some to) exec = is_at_or_before to exec ≡ true

-- the end of a server's own log, as the job read it last
abbrev pub end_seen : Recovery → ServerNo → Option Coord
end_seen r n = option_and_then (λ s. s.own_end) (seen_of r.core.seen n.0)

-- how far it had executed its source's log
abbrev pub exec_seen : Recovery → ServerNo → Option Coord
exec_seen r n = option_map (λ s. s.exec) (seen_of r.core.seen n.0)

-- the applier is off, or has executed all that was read
abbrev pub HasSettled : Status → Type 0
HasSettled s = (s.sql ≡ false) ⊎ (same_coord s.read s.exec ≡ true)

-- an operation that waits, at its stage, with those after it: the server is stopped next
pub data IsDueWait : Stage → Op → List Op → Type 0 where
  Drains : (n : ServerNo) → IsDueWait (stage.Drain n) (op.Settle n) (op.Stop n ∷ op.Status n None ∷ [])
  Trails : (n : ServerNo) (x : Bridge) → IsDueWait (stage.Trail n x) (op.Await n (ExecOf x.no)) (op.Stop n ∷ op.Status n None ∷ [])
  Levels : (p q : ServerNo) → IsDueWait (stage.Level p q) (op.Await q (EndOf p)) (op.Stop q ∷ op.Status q (Some p) ∷ op.Reset q ∷ op.Cross cross.About p q ∷ [])
  Gathers : (m d : ServerNo) → IsDueWait (stage.Gather m d) (op.Await d (EndOf m)) (op.Stop d ∷ op.Status d (Some m) ∷ [])

-- The turn reads another replica of a takeover:
-- - before its wait: if it is below the master it comes to the position at which the designated one stopped. Else it is
--   lost as `moved`, and left as it is;
-- - after its wait: if it is at that position it goes below the designated one. Else it is lost as `behind`, and is
--   started next.
-- One that isn't reached is lost as `unreachable`, and is to be started next.
pub record ReadsOthers (w : World) (d : Recovery) (t : Taken) : Type 0 where
  pub below : (n : ServerNo) (x : Bridge) (s : Status) → d.stage ≡ stage.Look n x → d.core.ops ≡ op.Status n None ∷ [] → seen_in (status w n.0) ≡ Some s
      → is_below (position_of s) d.failed ≡ true → IsNextStage d (stage.Trail n x) (trailing n x) t
  pub elsewhere : (n : ServerNo) (x : Bridge) (s : Status) → d.stage ≡ stage.Look n x → d.core.ops ≡ op.Status n None ∷ [] → seen_in (status w n.0) ≡ Some s
      → is_below (position_of s) d.failed ≡ false → IsLeftNow d n (lost.moved (spot_seen s.source s.exec)) t
  pub there : (n : ServerNo) (x : Bridge) (s : Status) → d.stage ≡ stage.Trail n x → d.core.ops ≡ op.Status n None ∷ [] → seen_in (status w n.0) ≡ Some s
      → same_coord s.exec x.exec ≡ true → IsNextStage d (stage.Move n (way.Down x)) (op.Cross cross.Down n x.no ∷ op.Start n ∷ []) t
  pub late : (n : ServerNo) (x : Bridge) (s : Status) → d.stage ≡ stage.Trail n x → d.core.ops ≡ op.Status n None ∷ [] → seen_in (status w n.0) ≡ Some s
      → same_coord s.exec x.exec ≡ false → IsFreedNow d n (lost.behind s.exec) t
  pub away : (n : ServerNo) (x : Bridge) → (d.stage ≡ stage.Look n x) ⊎ (d.stage ≡ stage.Trail n x) → d.core.ops ≡ op.Status n None ∷ [] → seen_in (status w n.0) ≡ None
      → IsFreedNow d n lost.unreachable t

-- The turn of a wait whose server isn't reached. A replica that is drained is lost. One that comes to the position at
-- which the designated one stopped is lost, and started next. The better one is given up. A takeover whose designated
-- one isn't reached fails.
pub record LosesItsWait (w : World) (d : Recovery) (t : Taken) : Type 0 where
  pub drains : (n : ServerNo) (rest : List Op) → d.stage ≡ stage.Drain n → d.core.ops ≡ op.Settle n ∷ rest → seen_in (status w n.0) ≡ None
      → IsLeftNow d n lost.unreachable t
  pub trails : (n : ServerNo) (x : Bridge) (rest : List Op) → d.stage ≡ stage.Trail n x → d.core.ops ≡ op.Await n (ExecOf x.no) ∷ rest
      → seen_in (status w n.0) ≡ None → IsFreedNow d n lost.unreachable t
  pub levels : (p q : ServerNo) (rest : List Op) → d.stage ≡ stage.Level p q → d.core.ops ≡ op.Await q (EndOf p) ∷ rest
      → seen_in (status w q.0) ≡ None → IsGivenUpNow d q t
  pub gathers : (m k : ServerNo) (rest : List Op) → d.stage ≡ stage.Gather m k → d.core.ops ≡ op.Await k (EndOf m) ∷ rest
      → seen_in (status w k.0) ≡ None → t.step ≡ step.Failed (cause.Unreachable k) []

-- The turn of a recovery as it was decided so far. Each wait goes by the status of that turn:
-- - a drained replica executes what it fetched; the last wait ends this, too;
-- - one comes to the position at which the designated one stopped, or is lost as `behind` at its own;
-- - the better one comes to the end of the chosen one's log, or is given up;
-- - the designated one comes to the end of its master's log, or the recovery fails.
-- No other operation waits. One whose server isn't reached is over in that turn, too. A takeover's other replicas go
-- on by their readings. The count of waits begins again with each operation, and how many there are stays.
pub record WaitsItsTurns (w : World) (d : Recovery) (t : Taken) : Type 0 where
  pub only : (o : Op) (rest : List Op) → d.core.ops ≡ o ∷ rest → waits (deed_of o) ≡ true → IsDueWait d.stage o rest
  pub drains : (n : ServerNo) (rest : List Op) (s : Status) → d.stage ≡ stage.Drain n → d.core.ops ≡ op.Settle n ∷ rest → seen_in (status w n.0) ≡ Some s
      → WaitsUntil d n (HasSettled s) (IsWaitOver d n t) t
  pub trails : (n : ServerNo) (x : Bridge) (rest : List Op) (s : Status) → d.stage ≡ stage.Trail n x → d.core.ops ≡ op.Await n (ExecOf x.no) ∷ rest
      → seen_in (status w n.0) ≡ Some s → WaitsUntil d n (HasCome (exec_seen d x.no) s.exec) (IsFreedNow d n (lost.behind s.exec) t) t
  pub levels : (p q : ServerNo) (rest : List Op) (s : Status) → d.stage ≡ stage.Level p q → d.core.ops ≡ op.Await q (EndOf p) ∷ rest
      → seen_in (status w q.0) ≡ Some s → WaitsUntil d q (HasCome (end_seen d p) s.exec) (IsGivenUpNow d q t) t
  pub gathers : (m k : ServerNo) (rest : List Op) (s : Status) → d.stage ≡ stage.Gather m k → d.core.ops ≡ op.Await k (EndOf m) ∷ rest
      → seen_in (status w k.0) ≡ Some s → WaitsUntil d k (HasCome (end_seen d m) s.exec) (t.step ≡ step.Failed (cause.WaitSpent k) []) t
  pub away : LosesItsWait w d t
  pub reads : ReadsOthers w d t
  pub fresh : t.step ≡ step.Going → (t.recovery.core.waited ≡ 0) ⊎ IsOneMoreWait d t
  pub wait : t.step ≡ step.Going → t.recovery.core.wait ≡ d.core.wait

-- A stage that waits begins with all its operations: one that is decided in the turn, and one that follows another.
pub record BeginsWhole (g : Ground) (r : Recovery) (t : Taken) : Type 0 where
  pub decided : Recovery
  pub so : Decisions g r decided
  pub first : r.core.ops ≡ [] → AreFirst decided.stage decided.core.ops
  pub next : (t.recovery.stage ≡ decided.stage) ⊎ AreFirst t.recovery.stage t.recovery.core.ops
