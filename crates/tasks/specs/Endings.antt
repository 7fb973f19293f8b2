-- How a task ends, and what has been written and kept then.
use Rattle.std.specs.Prelude.{◌≡◌, ℕ, ◌≤◌, ◌⊎◌, Bool, List, [], length, take, Option}
use Rattle.tasks.specs.Prelude.{HostPort, Recorded, Rose, Row, Scenario, Turn, names_of}
use Rattle.tasks.specs.declared.asked.Task.{Task}
use Rattle.tasks.specs.declared.ending.Ending.{Ending}
use Rattle.tasks.specs.declared.ending.Ending.TheVariants as ends
use Rattle.tasks.specs.Report.{answer_of, cut_text}
use Rattle.tasks.specs.Sinks.{End, FailsIn, Takes, TakesFront}
use Rattle.tasks.specs.Stages.{AllTaken, CutTaken, SomeTaken, stages}
use Rattle.tasks.specs.Works.{Comes, IsCut, Work}

-- What a task's report is of: the task, the servers' names, the scenario and its turns. Then which turns lead to which
-- kept rows and which state, and the kept rows at the end.
pub record Course : Type 1 where
  pub task : Task
  pub names : List HostPort
  pub scenario : Scenario
  pub turns : List Turn
  pub came : List Turn → Option (List Row) → Recorded → Type 0
  pub kept : Option (List Row)

-- all turns were taken: the scenario's, and then all of the command's own
pub record IsWhole (c : Course) (run : Recorded) : Type 0 where
  pub mid : Recorded
  pub rows : Option (List Row)
  pub came : c.came c.turns rows mid
  pub ts : List Turn
  pub own : AllTaken c.kept run (stages c.task.asked) rows mid ts

-- so many of the scenario's turns were taken
pub record IsOnTurns (c : Course) (run : Recorded) : Type 0 where
  pub k : ℕ
  pub within : k ≤ length c.turns
  pub comes : c.came (take k c.turns) c.kept run

-- all of them were, and some of the command's own
pub record IsOnOwn (c : Course) (run : Recorded) : Type 0 where
  pub mid : Recorded
  pub rows : Option (List Row)
  pub came : c.came c.turns rows mid
  pub ts : List Turn
  pub own : SomeTaken c.kept run (stages c.task.asked) rows mid ts

-- some of the turns were taken
abbrev pub IsOn : Course → Recorded → Type 0
IsOn c run = IsOnTurns c run ⊎ IsOnOwn c run

-- one of the command's own turns met a row store's fault
pub record IsCutInOwn (c : Course) (run : Recorded) : Type 0 where
  pub mid : Recorded
  pub rows : Option (List Row)
  pub came : c.came c.turns rows mid
  pub ts : List Turn
  pub own : CutTaken c.kept run (stages c.task.asked) rows mid ts

-- one of the turns met a row store's fault
abbrev pub WasCut : Course → Recorded → Type 0
WasCut c run = IsCut (λ ts at. c.came ts c.kept at) c.turns run ⊎ IsCutInOwn c run

-- all turns were taken, and the report is written whole
pub record IsWritten (c : Course) (out err : End) (refused : Bool) : Type 0 where
  pub run : Recorded
  pub whole : IsWhole c run
  pub on_out : Takes out (answer_of c.task c.names c.scenario run).out
  pub on_err : Takes err (answer_of c.task c.names c.scenario run).err
  pub is_refused : refused ≡ (answer_of c.task c.names c.scenario run).is_refused

-- all turns were taken, and err failed, before anything was written on out
pub record ErrFails (c : Course) (out err : End) : Type 0 where
  pub run : Recorded
  pub whole : IsWhole c run
  pub on_err : FailsIn err (answer_of c.task c.names c.scenario run).err
  pub on_out : Takes out []

-- all turns were taken, and out failed after err
pub record OutFails (c : Course) (out err : End) : Type 0 where
  pub run : Recorded
  pub whole : IsWhole c run
  pub on_err : Takes err (answer_of c.task c.names c.scenario run).err
  pub on_out : FailsIn out (answer_of c.task c.names c.scenario run).out

-- the row store failed; what is left of a run is written
pub record KeeperFails (c : Course) (out err : End) : Type 0 where
  pub run : Recorded
  pub cut : WasCut c run
  pub on_err : Takes err []
  pub on_out : Takes out (cut_text c.task.asked c.names run)

-- the row store failed, and so did out
pub record BothFail (c : Course) (out err : End) : Type 0 where
  pub run : Recorded
  pub cut : WasCut c run
  pub on_err : Takes err []
  pub on_out : FailsIn out (cut_text c.task.asked c.names run)

-- memory ran out after some turns
pub record MemoryFails (c : Course) (out err : End) : Type 0 where
  pub run : Recorded
  pub on : IsOn c run
  pub on_err : Takes err []
  pub on_out : TakesFront out (cut_text c.task.asked c.names run)

-- the report at each ending of a task that was begun
abbrev pub Stands : Course → End → End → Ending → Type 0
Stands c out err (ends.Written refused) = IsWritten c out err refused
Stands c out err ends.Unwritten = ErrFails c out err ⊎ OutFails c out err ⊎ BothFail c out err
Stands c out err ends.Keeper = KeeperFails c out err
Stands c out err ends.Memory = MemoryFails c out err

-- nothing was done
pub record IsIdle (w : Work) (out err : End) : Type 0 where
  pub kept : w.new ≡ w.old
  pub on_out : Takes out []
  pub on_err : Takes err []

-- the task was never begun, because the row store failed at the opening, or memory ran out
abbrev pub NeverBegan : Work → End → End → Ending → Type 0
NeverBegan w out err (ends.Written refused) = ⊥
NeverBegan w out err ends.Unwritten = ⊥
NeverBegan w out err ends.Keeper = IsIdle w out err
NeverBegan w out err ends.Memory = IsIdle w out err

abbrev pub course_of : Work → Course
course_of w = record { task = w.task; names = names_of w.scenario; scenario = w.scenario; turns = w.scenario.turns; came = Comes w; kept = w.new }

-- the report at each ending of a task
abbrev pub Tells : Work → End → End → Ending → Type 0
Tells w out err ending = NeverBegan w out err ending ⊎ Stands (course_of w) out err ending

-- The row store's fault stops a task only if its count rose. It never falls.
pub record HasKeepersCause (before now : ℕ) (result : Ending) : Type 0 where
  pub later : before ≤ now
  pub failed : result ≡ ends.Keeper → Rose before now
