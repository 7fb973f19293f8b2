-- Why a job stops: what happens to the operation that is due, in the world of that turn. And what a turn does else.
use Rattle.std.specs.Prelude.{◌≡◌, ℕ, ◌+◌, ◌<◌, ◌≤◌, Bool, true, false, if◌then◌else◌, List, [], ◌∷◌, map, Option, Some, None, is_some, Err}
use Rattle.cause_laws.specs.Prelude.{Apply, Attach, AttachAuto, Attached, AttachFault, Befall, Cause, Coord, Deed, Exchange, Fetch, Job, Line}
use Rattle.cause_laws.specs.Prelude.{MatchFault, Op, Position, Purge, Request, Rotate, ServerNo, SourceState, Spot, Status, Turned, World, Write}
use Rattle.cause_laws.specs.Prelude.{aim_of, attach_at, attach_auto, attachment_of, can_attach, can_reach, change_of, holds, is_at_or_before}
use Rattle.cause_laws.specs.Prelude.{match_logs, same_coord, seen_in, seen_of, server_at, status, until_by}
use Rattle.cause_laws.specs.Prelude.asking
use Rattle.cause_laws.specs.Prelude.attaching
use Rattle.cause_laws.specs.Prelude.cause
use Rattle.cause_laws.specs.Prelude.deed
use Rattle.cause_laws.specs.Prelude.matching
use Rattle.cause_laws.specs.Prelude.step

-- ---- with whom an operation speaks in a turn

abbrev pub tries : World → Option Exchange → Bool
tries w None = false
tries w (Some e) = can_attach w e

abbrev pub only_where : Bool → ServerNo → Option ServerNo
only_where b n = if b then Some n else None

-- the first of two servers, if it isn't reached, else the second
abbrev pub first_away : World → ServerNo → ServerNo → ServerNo
first_away w n m = if can_reach (server_at w n.0) then m else n

-- the server with which an operation has an exchange, a match with the first of two that isn't reached: nobody if it is
-- passed over, or ends the job
abbrev pub speaks_with : World → Job → Deed → Option ServerNo
speaks_with w j (deed.Look n from) = Some n
speaks_with w j (deed.Request n a) = Some n
speaks_with w j (deed.Until n to) = only_where (is_some (until_by (seen_of j.seen n.0) (aim_of j.seen to))) n
speaks_with w j (deed.Await n to) = Some n
speaks_with w j (deed.AwaitSet n m) = Some n
speaks_with w j (deed.Settle n) = Some n
speaks_with w j (deed.Cross c a b) = only_where (tries w (attachment_of j (deed.Cross c a b))) a
speaks_with w j (deed.Same n) = only_where (tries w (attachment_of j (deed.Same n))) n
speaks_with w j (deed.Auto n m) = only_where (tries w (attachment_of j (deed.Auto n m))) n
speaks_with w j (deed.Match n m every) = Some (first_away w n m)
speaks_with w j (deed.CrossMatch n m) = only_where (tries w (attachment_of j (deed.CrossMatch n m))) n
speaks_with w j (deed.Finish lines) = None

-- ---- what happens to an operation

-- it speaks with the server, which is down or can't be reached
pub record IsUnreached (w : World) (j : Job) (d : Deed) (n : ServerNo) : Type 0 where
  pub spoken : speaks_with w j d ≡ Some n
  pub away : can_reach (server_at w n.0) ≡ false

-- an attachment answers a fault
abbrev pub Answers : World → Exchange → AttachFault → Type 0
Answers w (Attach n expect to at) fault = (attach_at w n expect to at).0 ≡ Err fault
Answers w (AttachAuto n observed to) fault = (attach_auto w n observed to).0 ≡ Err fault
Answers w (Write n size) fault = ⊥
Answers w (Fetch n) fault = ⊥
Answers w (Apply n) fault = ⊥
Answers w (Request n a) fault = ⊥
Answers w (Befall n e) fault = ⊥
Answers w (Rotate n) fault = ⊥
Answers w (Purge n file) fault = ⊥

-- it changes the server's source, and this very attachment answers the fault
pub record IsAnswered (w : World) (j : Job) (d : Deed) (n : ServerNo) (fault : AttachFault) : Type 0 where
  pub changed : change_of d ≡ Some n
  pub exchange : Exchange
  pub found : attachment_of j d ≡ Some exchange
  pub can : can_attach w exchange ≡ true
  pub answer : Answers w exchange fault

-- it looks whether the server is attached to a source, and the status shows another state
pub record IsMoved (w : World) (d : Deed) (n : ServerNo) (source : SourceState) : Type 0 where
  pub named : ServerNo
  pub look : d ≡ deed.Look n (Some named)
  pub seen : Status
  pub shown : seen_in (status w n.0) ≡ Some seen
  pub is : seen.source ≡ source
  pub other : source ≡ Attached named → ⊥

-- no coordinate is known to which the server is to come, or it is before it
abbrev pub IsBefore : Option Coord → Coord → Type 0
IsBefore None exec = Unit {0}
IsBefore (Some to) exec = is_at_or_before to exec ≡ false

-- some GTID that was seen is lacking
abbrev pub LacksSome : Option Position → Status → Type 0
LacksSome None s = Unit {0}
LacksSome (Some m) s = (uuid : ℕ) × (k : ℕ) × (holds m.set uuid k ≡ true) × (holds s.set uuid k ≡ false)

-- By a status the server isn't yet what the job waits for. It hasn't come so far, lacks what was seen of another, or
-- its applier is on and hasn't executed all that was read.
abbrev pub Misses : Job → Deed → Status → Type 0
Misses j (deed.Await n to) s = IsBefore (aim_of j.seen to) s.exec
Misses j (deed.AwaitSet n m) s = LacksSome (seen_of j.seen m.0) s
Misses j (deed.Settle n) s = (s.sql ≡ true) × (same_coord s.read s.exec ≡ false)
Misses j (deed.Look n from) s = ⊥
Misses j (deed.Request n a) s = ⊥
Misses j (deed.Until n to) s = ⊥
Misses j (deed.Cross c a b) s = ⊥
Misses j (deed.Same n) s = ⊥
Misses j (deed.Auto n m) s = ⊥
Misses j (deed.Match n m every) s = ⊥
Misses j (deed.CrossMatch n m) s = ⊥
Misses j (deed.Finish lines) s = ⊥

-- a wait whose last one fails the job; the last one for a settled applier ends that wait
abbrev pub fails_when_spent : Deed → Bool
fails_when_spent (deed.Await n to) = true
fails_when_spent (deed.AwaitSet n m) = true
fails_when_spent (deed.Settle n) = false
fails_when_spent (deed.Look n from) = false
fails_when_spent (deed.Request n a) = false
fails_when_spent (deed.Until n to) = false
fails_when_spent (deed.Cross c a b) = false
fails_when_spent (deed.Same n) = false
fails_when_spent (deed.Auto n m) = false
fails_when_spent (deed.Match n m every) = false
fails_when_spent (deed.CrossMatch n m) = false
fails_when_spent (deed.Finish lines) = false

-- it waits for the server, whose status shows it short
pub record IsShort (w : World) (j : Job) (d : Deed) (n : ServerNo) : Type 0 where
  pub spoken : speaks_with w j d ≡ Some n
  pub seen : Status
  pub shown : seen_in (status w n.0) ≡ Some seen
  pub misses : Misses j d seen

-- and this is the last of its waits
pub record IsSpent (w : World) (j : Job) (d : Deed) (n : ServerNo) : Type 0 where
  pub fails : fails_when_spent d ≡ true
  pub short : IsShort w j d n
  pub last : j.wait ≤ j.waited + 1

-- it matches the log of the server with another's, and they don't match, for this fault
pub record IsUnmatched (w : World) (d : Deed) (n : ServerNo) (fault : MatchFault) : Type 0 where
  pub other : ServerNo
  pub every : ℕ
  pub match : d ≡ deed.Match n other every
  pub answer : match_logs w n other every ≡ Err fault

-- what happened to an operation that stopped its job, by the cause; no operation meets three of them
abbrev pub Befell : World → Job → Deed → Cause → Type 0
Befell w j d (cause.Unreachable n) = IsUnreached w j d n
Befell w j d (cause.WaitSpent n) = IsSpent w j d n
Befell w j d (cause.Interfered n expected found) = IsAnswered w j d n (attaching.Interfered expected found)
Befell w j d (cause.Running n) = (at : Spot) × IsAnswered w j d n (attaching.Running at)
Befell w j d (cause.Loop n) = IsAnswered w j d n attaching.Loop
Befell w j d (cause.Errant n set) = IsAnswered w j d n (attaching.Errant set)
Befell w j d (cause.Moved n source) = IsMoved w d n source
Befell w j d (cause.Purged n first) = IsAnswered w j d n (attaching.Purged first)
Befell w j d (cause.Reachable n) = ⊥
Befell w j d cause.NoCandidate = ⊥
Befell w j d (cause.NoMark n) = IsUnmatched w d n matching.NoMark
Befell w j d (cause.Mismatch n entry) = IsUnmatched w d n (matching.Mismatch entry)
Befell w j d (cause.HookFailed number exit) = ⊥

-- ---- what a turn does

-- a change of source, if it can be made
abbrev pub made : World → Option Exchange → List Exchange
made w None = []
made w (Some e) = if can_attach w e then e ∷ [] else []

abbrev pub asked_until : ServerNo → Option Coord → List Exchange
asked_until n None = []
asked_until n (Some to) = Request n.0 (asking.StartUntil to) ∷ []

-- what an operation changes, once it is done
abbrev pub changes_by : World → Job → Deed → List Exchange
changes_by w j (deed.Look n from) = []
changes_by w j (deed.Request n a) = Request n.0 a ∷ []
changes_by w j (deed.Until n to) = asked_until n (until_by (seen_of j.seen n.0) (aim_of j.seen to))
changes_by w j (deed.Await n to) = []
changes_by w j (deed.AwaitSet n m) = []
changes_by w j (deed.Settle n) = []
changes_by w j (deed.Cross c a b) = made w (attachment_of j (deed.Cross c a b))
changes_by w j (deed.Same n) = made w (attachment_of j (deed.Same n))
changes_by w j (deed.Auto n m) = made w (attachment_of j (deed.Auto n m))
changes_by w j (deed.Match n m every) = []
changes_by w j (deed.CrossMatch n m) = made w (attachment_of j (deed.CrossMatch n m))
changes_by w j (deed.Finish lines) = []

-- the operation is done, and those after it are left; a wait is done if its server isn't short, or at its last one if
-- that fails nothing
pub record IsDone (w : World) (j : Job) (rest : List Op) (d : Deed) (t : Turned) : Type 0 where
  pub going : t.step ≡ step.Going
  pub left : t.job.ops ≡ rest
  pub waited : t.job.waited ≡ 0
  pub wait : t.job.wait ≡ j.wait
  pub changes : t.exchanges ≡ changes_by w j d
  pub come : (n : ServerNo) → IsShort w j d n → (fails_when_spent d ≡ false) × (j.wait ≤ j.waited + 1)

-- one more wait for a server that is short, and not the last one
pub record IsWaited (w : World) (j : Job) (d : Deed) (t : Turned) : Type 0 where
  pub going : t.step ≡ step.Going
  pub left : t.job.ops ≡ j.ops
  pub waited : t.job.waited ≡ j.waited + 1
  pub wait : t.job.wait ≡ j.wait
  pub changes : t.exchanges ≡ []
  pub server : ServerNo
  pub short : IsShort w j d server
  pub more : j.waited + 1 < j.wait

-- the job is done, with these lines
pub record IsEnded (d : Deed) (t : Turned) : Type 0 where
  pub lines : List Line
  pub finish : d ≡ deed.Finish lines
  pub done : t.step ≡ step.Done lines
  pub changes : t.exchanges ≡ []

-- the job fails for what happened to the operation, and starts what it has in its hands
pub record IsStopped (w : World) (j : Job) (d : Deed) (t : Turned) : Type 0 where
  pub cause : Cause
  pub befell : Befell w j d cause
  pub failed : t.step ≡ step.Failed cause []
  pub changes : t.exchanges ≡ map (λ n. Request n.0 asking.Start) j.hands

-- what a turn comes to
pub data IsTaken (w : World) (j : Job) (rest : List Op) (d : Deed) (t : Turned) : Type 0 where
  Done : IsDone w j rest d t → IsTaken w j rest d t
  Waited : IsWaited w j d t → IsTaken w j rest d t
  Ended : IsEnded d t → IsTaken w j rest d t
  Stopped : IsStopped w j d t → IsTaken w j rest d t
