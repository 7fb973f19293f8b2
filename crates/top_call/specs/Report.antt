-- The report of a call whose row store has known rows: a function of the arguments, the bytes of the scenario and the
-- kept rows.
use Rattle.std.specs.Prelude.{◌≡◌, ℕ, ◌⊎◌, ◌++◌, ◌≤◌, Bool, true, false, List, [], codes, if◌then◌else◌, length, take, IfSome, Option, Some, None, Result, Ok, Err}
use Rattle.top_call.specs.Prelude.{Drawing, End, Fault, Places, Row, Scenario, Takes, TakesFront, TakesLine, Task, Usage, drawing_of, last_held}
use Rattle.top_call.specs.Prelude.{names_of, places_of, scenario_in, task_answer, task_of}
use Rattle.top_call.specs.Ends.{drawn_text}
use Rattle.top_call.specs.Faults.{fault_text}

-- what is written on out and on err, the status, and the kept rows then, if nothing fails; and whether the source is
-- read for it
pub record Report : Type 0 where
  pub out : List ℕ
  pub err : List ℕ
  pub status : ℕ
  pub rows : List Row
  pub reads : Bool

-- the status of a report that is written, by whether a written reply is refused or failed
abbrev pub written_status : Bool → ℕ
written_status refused = if refused then 7 else 0

-- of a task over a scenario
abbrev pub task_report : Task → Scenario → List Row → Report
task_report c s rows = record {
  out = (task_answer c s rows).out;
  err = (task_answer c s rows).err;
  status = written_status (task_answer c s rows).is_refused;
  rows = (last_held c s rows).rows;
  reads = true;
}

-- of a scenario that is drawn, whatever the source has
abbrev pub drawn_report : Drawing → List Row → Report
drawn_report d rows = record { out = drawn_text d; err = []; status = 0; rows = rows; reads = false }

-- of an accepted command line, over what was read
abbrev pub read_report : Places → List Row → Result Scenario Fault → Report
read_report p rows (Ok s) = task_report (task_of p (names_of s)) s rows
read_report p rows (Err fault) = record { out = []; err = fault_text fault; status = 2; rows = rows; reads = true }

-- by whether they ask to draw one
abbrev pub taken_report : Places → List ℕ → List Row → Option Drawing → Report
taken_report p bytes rows None = read_report p rows (scenario_in bytes)
taken_report p bytes rows (Some d) = drawn_report d rows

-- of a command line, by whether it is accepted
abbrev pub words_report : List ℕ → List Row → Result Places Usage → Report
words_report bytes rows (Ok p) = taken_report p bytes rows (drawing_of p)
words_report bytes rows (Err usage) = record { out = []; err = codes "usage\n"; status = 1; rows = rows; reads = false }

abbrev pub report : List (List ℕ) → List ℕ → List Row → Report
report words bytes rows = words_report bytes rows (places_of words)

-- ---- a call against its report

-- if the bytes of the scenario and the kept rows are known, this holds for the rows and for the report over them
abbrev pub ByReport : List (List ℕ) → Option (List ℕ) → Option (List Row) → (List Row → Report → Type 0) → Type 0
ByReport words left kept P = IfSome left (λ bytes. IfSome kept (λ rows. P rows (report words bytes rows)))

-- a report was to be written: all turns of a task were to be taken, or a scenario was to be drawn
abbrev pub IsToWrite : Report → Type 0
IsToWrite r = (r.status ≡ 0) ⊎ (r.status ≡ 7)

-- The call ends with the status of the report, or something stopped it. That is the source, if it is read (3), or a
-- sink of what was to be written (4). Or it is the row store of a task's run (5), or memory that ran out (6).
abbrev pub EndsAs : Report → ℕ → Type 0
EndsAs r status =
    (status ≡ r.status) ⊎ ((status ≡ 3) × (r.reads ≡ true)) ⊎ ((status ≡ 4) × IsToWrite r)
    ⊎ ((status ≡ 5) × (r.reads ≡ true) × IsToWrite r) ⊎ (status ≡ 6)

-- out took the report's part whole if the call ends with its status, a prefix of it if it was stopped, and nothing if
-- no scenario was read
pub record WritesOut (r : Report) (status : ℕ) (out : End) : Type 0 where
  pub whole : status ≡ r.status → Takes out r.out
  pub nothing : status ≡ 3 → Takes out []
  pub front : (status ≡ 4) ⊎ (status ≡ 5) ⊎ (status ≡ 6) → TakesFront out r.out

-- this line on err, after a prefix of the report's part
abbrev pub TakesBehind : Report → List ℕ → End → Type 0
TakesBehind r line err = (n : ℕ) × (n ≤ length r.err) × TakesLine err (take n r.err ++ line)

-- err took the report's part, or the line of what stopped the call; a line is whole, or a prefix of it if err failed
pub record WritesErr (r : Report) (status : ℕ) (err : End) : Type 0 where
  pub whole : (status ≡ 0) ⊎ (status ≡ 7) → Takes err r.err
  pub refused : (status ≡ 1) ⊎ (status ≡ 2) → TakesLine err r.err
  pub source : status ≡ 3 → TakesLine err (codes "read fault\n")
  pub sink : status ≡ 4 → TakesBehind r (codes "write fault\n") err
  pub keeper : status ≡ 5 → TakesLine err (codes "keeper fault\n")
  pub memory : status ≡ 6 → TakesLine err (codes "out of memory\n")

-- the row store has the report's rows if the call ends with its status, and those of before if no scenario was read, or
-- none is
pub record KeepsRows (r : Report) (status : ℕ) (rows : List Row) (kept : Option (List Row)) : Type 0 where
  pub whole : status ≡ r.status → kept ≡ Some r.rows
  pub idle : (status ≡ 3) ⊎ (r.reads ≡ false) → kept ≡ Some rows
