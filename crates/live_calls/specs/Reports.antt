-- What is written of a live run, and what is kept.
use Rattle.std.specs.Prelude.{◌≡◌, ◌⊎◌, ◌++◌, ℕ, Bool, List, [], map, Option}
use Rattle.live_calls.specs.Prelude.{Change, End, Ending, Entry, FailsIn, HostPort, IsLive, Put, Recorded, Row, Scenario, Takes, TakesFront, Turn}
use Rattle.live_calls.specs.Prelude.{any_refused, changed, names_of, option_map, report_text, rows_after, run_of, schedule_line, turns_in}
use Rattle.live_calls.specs.Prelude.ends

-- what is to be written, whether a reply in it is refused or failed, and the row store's rows then, if they are known
pub record LiveReport : Type 0 where
  pub out : List ℕ
  pub is_refused : Bool
  pub kept : Option (List Row)

abbrev pub puts : List Row → List Change
puts rows = map (λ r. Put r) rows

-- The line of a schedule, and after it the report that `run` gives of its turns. Also the rows that the row store had,
-- with the run's last rows put over them.
abbrev pub run_report : List HostPort → List Turn → Recorded → List Row → Option (List Row) → LiveReport
run_report names ts run rows old = record {
  out = schedule_line names ts ++ report_text names run;
  is_refused = any_refused run;
  kept = option_map (λ had. changed had (puts rows)) old;
}

-- of the run over the turns of a journal, from the scenario's opening without kept rows
abbrev pub live_report : Scenario → ℕ → Option (List Row) → List Entry → LiveReport
live_report s wait old es = run_report (names_of s) (turns_in es) (run_of s wait (turns_in es)).state (rows_after s wait es) old

-- What was kept and written of it at each ending: the rows are kept before anything is written.
abbrev pub Delivers : LiveReport → Option (List Row) → Option (List Row) → End → Ending → Type 0
Delivers r old new out (ends.Written refused) = (new ≡ r.kept) × Takes out r.out × (refused ≡ r.is_refused)
Delivers r old new out ends.Unwritten = (new ≡ r.kept) × FailsIn out r.out
Delivers r old new out ends.Keeper = (new ≡ old) × Takes out []
Delivers r old new out ends.Memory = ((new ≡ old) ⊎ (new ≡ r.kept)) × TakesFront out r.out

-- memory ran out before the run had ended: nothing was kept or written
abbrev pub NeverRan : Option (List Row) → Option (List Row) → End → Ending → Type 0
NeverRan old new out (ends.Written refused) = ⊥
NeverRan old new out ends.Unwritten = ⊥
NeverRan old new out ends.Keeper = ⊥
NeverRan old new out ends.Memory = (new ≡ old) × Takes out []

-- it ended with this journal, of which that is so
pub record Ran (s : Scenario) (wait : ℕ) (old new : Option (List Row)) (out : End) (ending : Ending) : Type 0 where
  pub entries : List Entry
  pub is : IsLive s wait entries
  pub delivers : Delivers (live_report s wait old entries) old new out ending

abbrev pub LiveTells : Scenario → ℕ → Option (List Row) → Option (List Row) → End → Ending → Type 0
LiveTells s wait old new out ending = Ran s wait old new out ending ⊎ NeverRan old new out ending
