-- The turns of a plan's job, one after another, whatever happens to the servers between them.
use Rattle.std.specs.Prelude.{◌≡◌, ℕ, ◌-◌, Bool, true, false, List, [], ◌∷◌, ◌++◌, length}
use Rattle.cause_laws.specs.Prelude.{Cause, Deed, Exchange, Job, Line, Moment, Op, ServerNo, Turned, World, deed_of, turned}
use Rattle.cause_laws.specs.Prelude.deed
use Rattle.cause_laws.specs.Prelude.step
use Rattle.cause_laws.specs.Events.{Befell, IsShort}

-- what a turn finds: the servers, the read number and the moment
pub record Meeting : Type 0 where
  pub world : World
  pub read : ℕ
  pub now : Moment

abbrev pub turn_at : Job → Meeting → Turned
turn_at j m = turned m.world m.read m.now j

-- the job after some turns
abbrev pub job_after : Job → List Meeting → Job
job_after j [] = j
job_after j (m ∷ ms) = job_after (turn_at j m).job ms

-- the exchanges that these turns made
abbrev pub exchanges_in : Job → List Meeting → List Exchange
exchanges_in j [] = []
exchanges_in j (m ∷ ms) = (turn_at j m).exchanges ++ exchanges_in (turn_at j m).job ms

-- it goes on after each of them
abbrev pub AllGoing : Job → List Meeting → Type 0
AllGoing j [] = Unit {0}
AllGoing j (m ∷ ms) = ((turn_at j m).step ≡ step.Going) × AllGoing (turn_at j m).job ms

-- ---- waits

-- one counted wait by this operation, which is due again: its status shows the server short
pub record IsWait (op : Op) (n : ServerNo) (j : Job) (m : Meeting) : Type 0 where
  pub rest : List Op
  pub due : j.ops ≡ op ∷ rest
  pub short : IsShort m.world j (deed_of op) n
  pub again : (turn_at j m).job.ops ≡ j.ops

abbrev pub AllWait : Op → ServerNo → Job → List Meeting → Type 0
AllWait op n j [] = Unit {0}
AllWait op n j (m ∷ ms) = IsWait op n j m × AllWait op n (turn_at j m).job ms

-- The turns so far end with the waits of one operation for a server, which was due for the first time after those
-- before. With the wait that this turn is they are as many as the job has.
pub record AreSpent (j : Job) (ms : List Meeting) (n : ServerNo) : Type 0 where
  pub before : List Meeting
  pub waits : List Meeting
  pub op : Op
  pub split : ms ≡ before ++ waits
  pub first : (job_after j before).waited ≡ 0
  pub each : AllWait op n (job_after j before) waits
  pub all : length waits ≡ j.wait - 1

-- ---- the end

-- nothing happens to the operation that is due
abbrev pub IsFree : Job → Meeting → Type 0
IsFree j m = (op : Op) (rest : List Op) (c : Cause) → j.ops ≡ op ∷ rest → Befell m.world j (deed_of op) c → ⊥

-- nor at any of these turns, as long as the job goes on
abbrev pub AllFree : Job → List Meeting → Type 0
AllFree j [] = Unit {0}
AllFree j (m ∷ ms) = IsFree j m × ((turn_at j m).step ≡ step.Going → AllFree (turn_at j m).job ms)

-- the lines with which the operations end a job
abbrev pub lines_by : Deed → List Line → List Line
lines_by (deed.Finish lines) later = lines
lines_by (deed.Look n from) later = later
lines_by (deed.Request n a) later = later
lines_by (deed.Until n to) later = later
lines_by (deed.Await n to) later = later
lines_by (deed.AwaitSet n m) later = later
lines_by (deed.Settle n) later = later
lines_by (deed.Cross c a b) later = later
lines_by (deed.Same n) later = later
lines_by (deed.Auto n m) later = later
lines_by (deed.Match n m every) later = later
lines_by (deed.CrossMatch n m) later = later

abbrev pub lines_of : List Op → List Line
lines_of [] = []
lines_of (op ∷ ops) = lines_by (deed_of op) (lines_of ops)

-- an operation ends its job
abbrev pub is_finish : Deed → Bool
is_finish (deed.Finish lines) = true
is_finish (deed.Look n from) = false
is_finish (deed.Request n a) = false
is_finish (deed.Until n to) = false
is_finish (deed.Await n to) = false
is_finish (deed.AwaitSet n m) = false
is_finish (deed.Settle n) = false
is_finish (deed.Cross c a b) = false
is_finish (deed.Same n) = false
is_finish (deed.Auto n m) = false
is_finish (deed.Match n m every) = false
is_finish (deed.CrossMatch n m) = false

-- in one of these turns the job is done, with the lines of its operations
pub record IsDoneIn (j : Job) (ms : List Meeting) : Type 0 where
  pub before : List Meeting
  pub last : Meeting
  pub behind : List Meeting
  pub split : ms ≡ before ++ last ∷ behind
  pub going : AllGoing j before
  pub done : (turn_at (job_after j before) last).step ≡ step.Done (lines_of j.ops)
