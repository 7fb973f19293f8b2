-- How a call ends.
use Rattle.std.specs.Prelude.{◌≡◌, ℕ, ◌≤◌, ◌⊎◌, ⊤, Bool, List, [], codes, if◌then◌else◌, IfSome, Option, Some, None, Result, Ok, Err}
use Rattle.top_call.specs.Prelude.{AskOfRead, BadWords, Consumes, Drawing, End, Ending, Fails, FailsIn, Fault, Gives, IsWritten, Places, Rose, Row, Scenario}
use Rattle.top_call.specs.Prelude.{Taken, Takes, TakesFront, TakesLine, Tells, Usage, Work, between, course_of, drawing_of, names_of}
use Rattle.top_call.specs.Prelude.{places_of, scenario_in, scenario_text, task_of, usage_fault}
use Rattle.top_call.specs.Prelude.ends
use Rattle.top_call.specs.Faults.{fault_text}
use Rattle.top_call.specs.Reads.{OfRead}
use Rattle.top_call.specs.declared.way.Way.{Way}
use Rattle.top_call.specs.declared.way.Way.TheVariants as way

-- the status of each way to end
abbrev pub status_of : Way → ℕ
status_of (way.Reported refused) = if refused then 7 else 0
status_of way.Drawn = 0
status_of way.Usage = 1
status_of way.Fault = 2
status_of way.Source = 3
status_of way.Sink = 4
status_of way.Keeper = 5
status_of way.Memory = 6

-- a call: the arguments, the bytes of the scenario, the kept rows before and after, if they are known, and what out and
-- err took
pub record Call : Type 0 where
  pub words : List (List ℕ)
  pub bytes : List ℕ
  pub kept : Option (List Row)
  pub kept_now : Option (List Row)
  pub out : End
  pub err : End

abbrev pub call : List (List ℕ) → List ℕ → Option (List Row) → Option (List Row) → End → End → Call
call words bytes kept kept_now out err = record { words = words; bytes = bytes; kept = kept; kept_now = kept_now; out = out; err = err }

-- the task that a command line asks over the scenario that bytes are; one that asks to draw a scenario has none
pub record IsTask (words : List (List ℕ)) (bytes : List ℕ) (w : Work) : Type 0 where
  pub places : Places
  pub taken : places_of words ≡ Ok places
  pub asks : AskOfRead places
  pub read : scenario_in bytes ≡ Ok w.scenario
  pub task : w.task ≡ task_of places (names_of w.scenario)

-- the call's task, with its kept rows
pub record Asks (c : Call) (w : Work) : Type 0 where
  pub is : IsTask c.words c.bytes w
  pub old : w.old ≡ c.kept
  pub new : w.new ≡ c.kept_now

-- nothing was done, except for this line on err
pub record Idles (c : Call) (line : List ℕ) : Type 0 where
  pub kept : c.kept_now ≡ c.kept
  pub out : Takes c.out []
  pub err : TakesLine c.err line

-- the call's task ended so, and this line followed on err what the task had written there
pub record Closes (c : Call) (ending : Ending) (line : List ℕ) : Type 0 where
  pub work : Work
  pub asks : Asks c work
  pub mid : Taken
  pub tells : Tells work c.out (between c.err.old mid) ending
  pub later : c.err.old.faults ≤ mid.faults
  pub err : TakesLine (between mid c.err.new) line

-- the call's task ended with its whole report
pub record Reports (c : Call) (refused : Bool) : Type 0 where
  pub work : Work
  pub asks : Asks c work
  pub written : IsWritten (course_of work) c.out c.err refused

-- so read these arguments, unless memory ran out
abbrev pub IsParse : List (List ℕ) → Result Places Usage → Type 0
IsParse words parsed = Gives (λ p. p) usage_fault parsed (places_of words)

-- the command line is accepted, and asks something of a scenario that is read
abbrev pub AskARead : List (List ℕ) → Type 0
AskARead words = (p : Places) × (places_of words ≡ Ok p) × AskOfRead p

-- the command line is accepted, and asks to draw this scenario
abbrev pub AskToDraw : List (List ℕ) → Drawing → Type 0
AskToDraw words d = (p : Places) × (places_of words ≡ Ok p) × (drawing_of p ≡ Some d)

-- what holds of the scenario that any arguments that read so ask to draw
abbrev pub IfDrawn : Result Places Usage → (Drawing → Type 0) → Type 0
IfDrawn parsed P = (words : List (List ℕ)) (d : Drawing) → IsParse words parsed → AskToDraw words d → P d

-- the text of a scenario that is drawn
abbrev pub drawn_text : Drawing → List ℕ
drawn_text d = scenario_text d.seed d.servers d.turns

-- the call drew a scenario, and kept nothing; out took its text so, and err this
pub record Draws (c : Call) (Took : List ℕ → Type 0) (Told : Type 0) : Type 0 where
  pub drawing : Drawing
  pub asks : AskToDraw c.words drawing
  pub kept : c.kept_now ≡ c.kept
  pub out : Took (drawn_text drawing)
  pub err : Told

-- What a call has done by each way to end. The command line is tested first. If it asks to draw a scenario, that is
-- written. Else the source is read, then the scenario is tested.
abbrev pub Ends : Call → Way → Type 0
Ends c (way.Reported refused) = Reports c refused
Ends c way.Drawn = Draws c (Takes c.out) (Takes c.err [])
Ends c way.Usage = (places_of c.words ≡ Err BadWords) × Idles c (codes "usage\n")
Ends c way.Fault = AskARead c.words × ((f : Fault) × (scenario_in c.bytes ≡ Err f) × Idles c (fault_text f))
Ends c way.Source = AskARead c.words × Idles c (codes "read fault\n")
Ends c way.Sink = Closes c ends.Unwritten (codes "write fault\n") ⊎ Draws c (FailsIn c.out) (TakesLine c.err (codes "write fault\n"))
Ends c way.Keeper = Closes c ends.Keeper (codes "keeper fault\n")
Ends c way.Memory =
    Idles c (codes "out of memory\n") ⊎ Closes c ends.Memory (codes "out of memory\n") ⊎ Draws c (TakesFront c.out) (TakesLine c.err (codes "out of memory\n"))

-- So ends, with this status, a call that draws this scenario. Out took its text whole (0). Or it failed and took a
-- prefix of it (4). Or memory ran out, and it took a prefix (6).
abbrev pub DrawEnds : Drawing → ℕ → End → End → Type 0
DrawEnds d status out err =
    ((status ≡ 0) × Takes out (drawn_text d) × Takes err [])
    ⊎ ((status ≡ 4) × FailsIn out (drawn_text d) × TakesLine err (codes "write fault\n"))
    ⊎ ((status ≡ 6) × TakesFront out (drawn_text d) × TakesLine err (codes "out of memory\n"))

-- so ends a call of any arguments that read so, over the bytes that were read
abbrev pub EndsOf : Result Places Usage → Option (List ℕ) → Option (List Row) → Option (List Row) → End → End → Way → Type 0
EndsOf parsed left kept kept_now out err w = (words : List (List ℕ)) → IsParse words parsed → OfRead left (λ bytes. Ends (call words bytes kept kept_now out err) w)

-- over any bytes that are this scenario
abbrev pub EndsOver : Places → Scenario → Option (List Row) → Option (List Row) → End → End → Way → Type 0
EndsOver p s kept kept_now out err w = (words : List (List ℕ)) (bytes : List ℕ) → places_of words ≡ Ok p → scenario_in bytes ≡ Ok s → Ends (call words bytes kept kept_now out err) w

-- it is the way of a task's whole report
abbrev pub IsReported : Way → Type 0
IsReported (way.Reported refused) = ⊤
IsReported way.Drawn = ⊥
IsReported way.Usage = ⊥
IsReported way.Fault = ⊥
IsReported way.Source = ⊥
IsReported way.Sink = ⊥
IsReported way.Keeper = ⊥
IsReported way.Memory = ⊥

-- a call with this status ends by one of these ways
abbrev pub EndsBy : Call → ℕ → Type 0
EndsBy c status = (w : Way) × (status ≡ status_of w) × Ends c w

-- ---- statuses

-- 1 only if the command line isn't accepted, and always then, unless memory runs out while it is read
pub record IsUsage (words : List (List ℕ)) (status : ℕ) : Type 0 where
  pub only : status ≡ 1 → places_of words ≡ Err BadWords
  pub always : places_of words ≡ Err BadWords → (status ≡ 1) ⊎ (status ≡ 6)

-- so it is for any arguments that read so
abbrev pub UsageOf : Result Places Usage → ℕ → Type 0
UsageOf parsed status = (words : List (List ℕ)) → IsParse words parsed → IsUsage words status

-- 2 exactly if what is read is a fault, unless the source failed or memory ran out
pub record FaultsBy (read : Result Scenario Fault) (status : ℕ) : Type 0 where
  pub only : status ≡ 2 → (f : Fault) × (read ≡ Err f)
  pub always : (f : Fault) → read ≡ Err f → (status ≡ 2) ⊎ (status ≡ 3) ⊎ (status ≡ 6)

-- So it is for a command line that asks something of a scenario that is read. For one that draws it isn't 2.
abbrev pub FaultsFor : Option Drawing → Result Scenario Fault → ℕ → Type 0
FaultsFor None read status = FaultsBy read status
FaultsFor (Some d) read status = status ≡ 2 → ⊥

-- nor is it if the command line isn't accepted
abbrev pub FaultsAs : Result Places Usage → Result Scenario Fault → ℕ → Type 0
FaultsAs (Ok p) read status = FaultsFor (drawing_of p) read status
FaultsAs (Err usage) read status = status ≡ 2 → ⊥

-- so it is for a command line over the bytes that the source had, if they are known
abbrev pub FaultsOf : List (List ℕ) → Option (List ℕ) → ℕ → Type 0
FaultsOf words left status = IfSome left (λ bytes. FaultsAs (places_of words) (scenario_in bytes) status)

-- 5 only if the row store's count rose, which never falls; with 1, 2 and 3 it stays
pub record FailsByKeeper (before now status : ℕ) : Type 0 where
  pub later : before ≤ now
  pub failed : status ≡ 5 → Rose before now
  pub idle : (status ≡ 1) ⊎ (status ≡ 2) ⊎ (status ≡ 3) → now ≡ before

-- no count of faults rose: of the source, of the row store, of out or of err
pub record NoneRose (source_before source_after keeper_before keeper_after : ℕ) (out err : End) : Type 0 where
  pub no_source : ¬ (Rose source_before source_after)
  pub no_keeper : ¬ (Rose keeper_before keeper_after)
  pub no_out : ¬ (Fails out)
  pub no_err : ¬ (Fails err)

-- the command line is accepted, and the bytes are a scenario, if it asks something of one that is read
pub record IsGood (words : List (List ℕ)) (bytes : List ℕ) : Type 0 where
  pub places : Places
  pub taken : places_of words ≡ Ok places
  pub read : AskOfRead places → (s : Scenario) × (scenario_in bytes ≡ Ok s)

-- with 0 and 7 a source that had these bytes was read to its end, if the command line asks something of a scenario that
-- is read
abbrev pub ReadsWhole : List (List ℕ) → List ℕ → ℕ → Option (List ℕ) → Option (List ℕ) → Type 0
ReadsWhole words bytes status left left_now = AskARead words → (status ≡ 0) ⊎ (status ≡ 7) → Consumes left left_now bytes

-- the report is written whole, or memory ran out
abbrev pub IsComplete : ℕ → Type 0
IsComplete status = (status ≡ 0) ⊎ (status ≡ 7) ⊎ (status ≡ 6)
