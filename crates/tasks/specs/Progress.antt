-- A run's report on its way, turn by turn.
use Rattle.std.specs.Prelude.{◌≡◌, ℕ, ◌+◌, ◌<◌, ◌≤◌, ◌||◌, ◌⊎◌, List, [], false, length, take, slice_get, Option, Some}
use Rattle.tasks.specs.Prelude.{Calls, CommandTurn, HostPort, Ran, Recorded, Reply, Row, Scenario, State, Tally, Turn, TurnFault, line_text, recorder}
use Rattle.tasks.specs.Prelude.{without_turns}
use Rattle.tasks.specs.Prelude.fault
use Rattle.tasks.specs.declared.asked.Asked.TheVariants as asked
use Rattle.tasks.specs.declared.asked.Task.{Task}
use Rattle.tasks.specs.declared.progress.Progress.{Progress}
use Rattle.tasks.specs.declared.ending.Ending.{Ending}
use Rattle.tasks.specs.declared.ending.Ending.TheVariants as ends
use Rattle.tasks.specs.Closing.{begun_by, closing_by}
use Rattle.tasks.specs.Endings.{Course}
use Rattle.tasks.specs.declared.verdict.Verdict.{Verdict}
use Rattle.tasks.specs.declared.verdict.Verdict.TheVariants as verdict
use Rattle.tasks.specs.Report.{any_refused, is_refused, last_reply, replies_text, tables_of, tally_of}
use Rattle.tasks.specs.Sinks.{Carries, End, FailsInRest, Joins, Taken, TakesFront, TakesRest}
use Rattle.tasks.specs.Stages.{AllTaken, CutTaken, SomeTaken, Stage, stages}
use Rattle.tasks.specs.Works.{IsCut}

-- a state of a run, and the kept rows beside it, if they are known
pub record Point : Type 0 where
  pub kept : Option (List Row)
  pub state : State

abbrev pub point : Option (List Row) → State → Point
point kept state = record { kept = kept; state = state }

-- these turns lead from a point, with an empty journal, to this state, and to these kept rows
abbrev pub Leads : Point → Option (List Row) → List Turn → Recorded → Type 0
Leads from kept ts run = Ran recorder from.kept (without_turns from.state) ts kept run

-- nothing is on its way yet
pub record IsFresh (p : Progress) : Type 0 where
  pub held : p.pieces.held.items ≡ []
  pub unfailed : p.pieces.failed ≡ false
  pub unrefused : p.is_refused ≡ false

-- these turns led from one point to another, and the lines of their replies are on their way
pub record Follows (names : List HostPort) (from : Point) (ts : List Turn) (to : Point) (e : End) (p : Progress) : Type 0 where
  pub run : Recorded
  pub ran : Leads from to.kept ts run
  pub state : run.state ≡ to.state
  pub text : Carries e p.pieces (replies_text names run)
  pub refused : p.is_refused ≡ any_refused run
  pub count : length run.journal ≡ length ts

-- the turns before one of these were taken, and that one met a row store's fault
pub record StopsBefore (names : List HostPort) (from : Point) (ts : List Turn) (to : Point) (e : End) (p : Progress) : Type 0 where
  pub k : ℕ
  pub within : k < length ts
  pub follows : Follows names from (take k ts) to e p
  pub calls : (t : Turn) → slice_get ts k ≡ Some t → Calls recorder follows.run t

-- memory ran out after some of these turns
pub record StopsBehind (names : List HostPort) (from : Point) (ts : List Turn) (to : Point) (e : End) : Type 0 where
  pub k : ℕ
  pub within : k ≤ length ts
  pub run : Recorded
  pub ran : Leads from to.kept (take k ts) run
  pub front : TakesFront e (replies_text names run)

-- why the turns weren't all taken
abbrev pub GaveUp : List HostPort → Point → List Turn → Point → End → Progress → TurnFault → Type 0
GaveUp names from ts to e p fault.Keeper = StopsBefore names from ts to e p
GaveUp names from ts to e p fault.Memory = StopsBehind names from ts to e

-- what a task's report is of, from a point on
abbrev pub course_from : Task → List HostPort → Scenario → List Turn → Point → Option (List Row) → Course
course_from c names s ts from kept = record { task = c; names = names; scenario = s; turns = ts; came = λ us rows run. Leads from rows us run; kept = kept }

-- ---- a run's summary

-- with one more reply
abbrev pub with_reply : Tally → Verdict → Tally
with_reply t verdict.Neither = record t { turns = t.turns + 1 }
with_reply t verdict.Refused = record t { turns = t.turns + 1; refused = t.refused + 1 }
with_reply t verdict.Failed = record t { turns = t.turns + 1; failed = t.failed + 1 }
with_reply t verdict.Taken = record t { turns = t.turns + 1 }

-- these turns led from one point to another, and their replies come to this tally
pub record Tallies (from : Point) (ts : List Turn) (to : Point) (tally : Tally) : Type 0 where
  pub run : Recorded
  pub ran : Leads from to.kept ts run
  pub state : run.state ≡ to.state
  pub is : tally ≡ tally_of run.journal
  pub count : length run.journal ≡ length ts

-- ---- a single command

-- from a run on, so many of these turns were taken
pub record Gives (rows : Option (List Row)) (mid : Recorded) (ts : List Turn) (kept : Option (List Row)) : Type 0 where
  pub k : ℕ
  pub within : k ≤ length ts
  pub run : Recorded
  pub ran : Ran recorder rows mid (take k ts) kept run

-- from a run on, these turns were taken up to one that gave up
abbrev pub GivesUpOn : Option (List Row) → Recorded → List Turn → Option (List Row) → TurnFault → Type 0
GivesUpOn rows mid ts kept fault.Keeper = (run : Recorded) × IsCut (λ us at. Ran recorder rows mid us kept at) ts run
GivesUpOn rows mid ts kept fault.Memory = Gives rows mid ts kept

abbrev pub GivesUp : Point → List Turn → Option (List Row) → TurnFault → Type 0
GivesUp from ts kept why = GivesUpOn from.kept (without_turns from.state) ts kept why

-- After a run that ended with this reply: the rounds of the job that it began, if it did, led to another point. The
-- last reply of the command is then this one.
pub record Closes (rows : Option (List Row)) (mid : Recorded) (reply : Reply) (to : Point) (told : Reply) : Type 0 where
  pub run : Recorded
  pub ran : Ran recorder rows mid (closing_by (begun_by reply) mid.state) to.kept run
  pub state : run.state ≡ to.state
  pub last : last_reply run.journal ≡ Some told

-- so it is after every run at this point that ended with this reply
abbrev pub ClosesEach : Point → Reply → Point → Reply → Type 0
ClosesEach from reply to told = (mid : Recorded) → mid.state ≡ from.state → last_reply mid.journal ≡ Some reply → Closes from.kept mid reply to told

-- and so after every run at this point the rounds gave up
abbrev pub GivesUpEach : Point → Reply → Option (List Row) → TurnFault → Type 0
GivesUpEach from reply kept why = (mid : Recorded) → mid.state ≡ from.state → GivesUpOn from.kept mid (closing_by (begun_by reply) mid.state) kept why

-- after a run all turns of stages were taken, which led to another point, and the last reply of the command is this one
pub record Ends (xs : List Stage) (rows : Option (List Row)) (mid : Recorded) (to : Point) (told : Reply) : Type 0 where
  pub ts : List Turn
  pub run : Recorded
  pub taken : AllTaken to.kept run xs rows mid ts
  pub state : run.state ≡ to.state
  pub last : last_reply run.journal ≡ Some told

-- so it is after every run at this point
abbrev pub EndsEach : List Stage → Point → Point → Reply → Type 0
EndsEach xs from to told = (mid : Recorded) → mid.state ≡ from.state → Ends xs from.kept mid to told

-- after a run some turns of stages were taken, up to one that gave up
abbrev pub StopsIn : List Stage → Option (List Row) → Recorded → Option (List Row) → TurnFault → Type 0
StopsIn xs rows mid kept fault.Keeper = (run : Recorded) × (ts : List Turn) × CutTaken kept run xs rows mid ts
StopsIn xs rows mid kept fault.Memory = (run : Recorded) × (ts : List Turn) × SomeTaken kept run xs rows mid ts

-- so it is after every run at this point
abbrev pub StopsEach : List Stage → Point → Option (List Row) → TurnFault → Type 0
StopsEach xs from kept why = (mid : Recorded) → mid.state ≡ from.state → StopsIn xs from.kept mid kept why

-- these turns were taken, and after them all of a single command's own; its last reply is this one
pub record Answers (from : Point) (ts : List Turn) (own : CommandTurn) (to : Point) (told : Reply) : Type 0 where
  pub rows : Option (List Row)
  pub mid : Recorded
  pub ran : Leads from rows ts mid
  pub ends : Ends (stages (asked.Turn own)) rows mid to told

-- one of its own turns gave up
pub record StopsInOwn (from : Point) (ts : List Turn) (own : CommandTurn) (kept : Option (List Row)) (why : TurnFault) : Type 0 where
  pub rows : Option (List Row)
  pub mid : Recorded
  pub ran : Leads from rows ts mid
  pub stops : StopsIn (stages (asked.Turn own)) rows mid kept why

-- one of all turns gave up
abbrev pub Stops : Point → List Turn → CommandTurn → Option (List Row) → TurnFault → Type 0
Stops from ts own kept why = GivesUp from ts kept why ⊎ StopsInOwn from ts own kept why

-- ---- steps of a report on its way, between two moments of out

-- the line of a turn with its reply joins the text
pub record Adds (names : List HostPort) (number : ℕ) (t : Turn) (r : Reply) (p p' : Progress) (old new : Taken) : Type 0 where
  pub text : Joins (line_text names number t r) p.pieces p'.pieces old new
  pub is_refused : p'.is_refused ≡ (p.is_refused || is_refused r)

-- how a report ends after all turns: with the tables
abbrev pub EndsWhole : State → Progress → Taken → Taken → Ending → Type 0
EndsWhole s p old new (ends.Written refused) = TakesRest (tables_of s) p.pieces old new × (refused ≡ p.is_refused)
EndsWhole s p old new ends.Unwritten = FailsInRest (tables_of s) p.pieces old new
EndsWhole s p old new ends.Keeper = ⊥
EndsWhole s p old new ends.Memory = new ≡ old

-- how a report ends that a row store's fault cut
abbrev pub EndsCut : Progress → Taken → Taken → Ending → Type 0
EndsCut p old new (ends.Written refused) = ⊥
EndsCut p old new ends.Unwritten = FailsInRest [] p.pieces old new
EndsCut p old new ends.Keeper = TakesRest [] p.pieces old new
EndsCut p old new ends.Memory = ⊥
