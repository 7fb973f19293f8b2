-- What a turn is to do, as it was looked up before it.
use Rattle.std.specs.Prelude.{◌≡◌, ◌<◌, is_some, length, ◌+◌, Bool, true, false, List, [], ◌∷◌, drop, Option, Some, None}
use Rattle.job_plans.specs.Prelude.{All, Attach, Attempt, Exchange, IsAutoTarget, IsOneOf, IsTarget, Job, JobStep, Observation, Op, Request, Turned}
use Rattle.job_plans.specs.Prelude.{World, by_set, ended, hands_after, next, option_to_list, restarts, saw_at, seen_of, settled, with_match}
use Rattle.job_plans.specs.Prelude.step
use Rattle.job_plans.specs.declared.act.Look.{Look}
use Rattle.job_plans.specs.declared.act.Act.{Act}
use Rattle.job_plans.specs.declared.act.Act.TheVariants as act

-- the operations after the one that is due
abbrev pub rest_of : Job → List Op
rest_of j = drop 1 j.ops

-- the exchanges that an act makes
abbrev pub exchanges_of : Job → Act → List Exchange
exchanges_of j act.Fail = restarts j.hands
exchanges_of j act.End = []
exchanges_of j act.Pass = []
exchanges_of j (act.Keep x) = []
exchanges_of j (act.Found m) = []
exchanges_of j (act.Wait x) = []
exchanges_of j (act.Ask n a) = Request n.0 a ∷ []
exchanges_of j (act.Attach n expect to at) = Attach n.0 expect to at ∷ []
exchanges_of j (act.Auto n m) = option_to_list (by_set n m (seen_of j.seen m.0))

-- the job after it
abbrev pub job_after : Job → Act → Job
job_after j act.Fail = ended j
job_after j act.End = ended j
job_after j act.Pass = next j (rest_of j)
job_after j (act.Keep x) = next (saw_at j x.no x.seen) (rest_of j)
job_after j (act.Found m) = next (with_match j m) (rest_of j)
job_after j (act.Wait x) = record (saw_at j x.no x.seen) { waited = j.waited + 1 }
job_after j (act.Ask n a) = record (next j (rest_of j)) { hands = hands_after j.hands n a }
job_after j (act.Attach n expect to at) = next j (rest_of j)
job_after j (act.Auto n m) = next j (rest_of j)

-- the turn that a look foretells
abbrev pub foretold : Job → Look → Turned
foretold j l = record { step = l.step; observation = l.observation; exchanges = exchanges_of j l.act; job = job_after j l.act }

-- ---- what a turn requires

-- the servers are there, what an attachment goes by has its place, an operation is due, and a wait is one of those that
-- are left
abbrev pub Fits : World → Job → Act → Type 0
Fits w j act.Fail = All (IsOneOf (length w.servers)) j.hands
Fits w j act.End = Unit {0}
Fits w j act.Pass = 0 < length j.ops
Fits w j (act.Keep x) = 0 < length j.ops
Fits w j (act.Found m) = 0 < length j.ops
Fits w j (act.Wait x) = j.waited + 1 < j.wait
Fits w j (act.Ask n a) = (n.0 < length w.servers) × (0 < length j.ops)
Fits w j (act.Attach n expect to at) = (n.0 < length w.servers) × IsTarget w to.0 at × (0 < length j.ops)
Fits w j (act.Auto n m) = (n.0 < length w.servers) × IsAutoTarget w m.0 × (0 < length j.ops) × (is_some (seen_of j.seen m.0) ≡ true)

-- an operation is due, and a wait is one of those that are left
abbrev pub CanFollow : Job → Act → Type 0
CanFollow j act.Fail = Unit {0}
CanFollow j act.End = Unit {0}
CanFollow j act.Pass = 0 < length j.ops
CanFollow j (act.Keep x) = 0 < length j.ops
CanFollow j (act.Found m) = 0 < length j.ops
CanFollow j (act.Wait x) = j.waited + 1 < j.wait
CanFollow j (act.Ask n a) = 0 < length j.ops
CanFollow j (act.Attach n expect to at) = 0 < length j.ops
CanFollow j (act.Auto n m) = 0 < length j.ops

-- after an operation is looked up if one is due
abbrev pub IsNext : Job → Option Op → Type 0
IsNext j None = j.ops ≡ []
IsNext j (Some op) = j.ops ≡ op ∷ rest_of j

-- acts that may want memory
abbrev pub takes_memory : Act → Bool
takes_memory act.Fail = false
takes_memory act.End = false
takes_memory act.Pass = false
takes_memory (act.Keep x) = false
takes_memory (act.Found m) = true
takes_memory (act.Wait x) = true
takes_memory (act.Ask n a) = true
takes_memory (act.Attach n expect to at) = false
takes_memory (act.Auto n m) = true

-- memory may be wanted only if the job goes on and nothing is observed
abbrev pub IsSpare : JobStep → Option Observation → Act → Type 0
IsSpare s o a = takes_memory a ≡ true → (s ≡ step.Going) × (o ≡ None)

-- a turn may do what was looked up, on this world and this job
pub record CanTurn (w : World) (j : Job) (l : Look) : Type 0 where
  pub fits : Fits w j l.act
  pub spare : IsSpare l.step l.observation l.act

-- an operation is due, and what is in the hands is there
pub record MayLook (w : World) (j : Job) : Type 0 where
  pub due : 0 < length j.ops
  pub hands : All (IsOneOf (length w.servers)) j.hands

-- a look foretells the turn that an attempt comes to, and the turn may be taken
pub record Tells (w : World) (j : Job) (a : Attempt) (l : Look) : Type 0 where
  pub turn : foretold j l ≡ settled j a
  pub can : CanTurn w j l

-- so it is for every job
abbrev pub TellsAll : World → (Job → Attempt) → Look → Type 0
TellsAll w a l = (j : Job) → MayLook w j → Tells w j (a j) l
