-- The report of a journal: of turns that were taken, each with the number of the one who took it, and with its reply.
use Rattle.std.specs.Prelude.{◌≡◌, ℕ, ◌≤◌, ◌||◌, ◌++◌, List, length, map, take}
use Rattle.tasks.specs.Prelude.{HostPort, Recorded, Reply, State, Turn, lines_text, list_any}
use Rattle.tasks.specs.declared.ending.Ending.{Ending}
use Rattle.tasks.specs.declared.ending.Ending.TheVariants as ends
use Rattle.tasks.specs.declared.progress.Progress.{Progress}
use Rattle.tasks.specs.Report.{any_refused, is_refused, report_text}
use Rattle.tasks.specs.Sinks.{End, FailsIn, Joins, Taken, Takes, TakesFront}

abbrev pub told_in : List (ℕ × Turn × Reply) → List (Turn × Reply)
told_in es = map (λ e. (e.1, e.2)) es

-- a run that ended in this state, and took these turns
abbrev pub told_run : State → List (ℕ × Turn × Reply) → Recorded
told_run s es = record { state = s; journal = told_in es }

-- the lines of the first so many joined the text
pub record Told (names : List HostPort) (es : List (Turn × Reply)) (k : ℕ) (p p' : Progress) (old new : Taken) : Type 0 where
  pub text : Joins (lines_text names 1 (take k es)) p.pieces p'.pieces old new
  pub refused : p'.is_refused ≡ (p.is_refused || list_any (λ e. is_refused e.1) (take k es))

-- those of some joined it
pub record ToldSome (names : List HostPort) (es : List (Turn × Reply)) (p p' : Progress) (old new : Taken) : Type 0 where
  pub k : ℕ
  pub within : k ≤ length es
  pub text : Joins (lines_text names 1 (take k es)) p.pieces p'.pieces old new

-- what comes first, and the report of a run
abbrev pub headed_text : List ℕ → List HostPort → Recorded → List ℕ
headed_text head names run = head ++ report_text names run

-- what out took of it at each ending
abbrev pub JournalStands : List ℕ → List HostPort → Recorded → End → Ending → Type 0
JournalStands head names run out (ends.Written refused) = Takes out (headed_text head names run) × (refused ≡ any_refused run)
JournalStands head names run out ends.Unwritten = FailsIn out (headed_text head names run)
JournalStands head names run out ends.Keeper = ⊥
JournalStands head names run out ends.Memory = TakesFront out (headed_text head names run)
