-- The lines of a scan.
use Rattle.std.specs.Prelude.{◌≡◌, ◌⊎◌, ℕ, ◌+◌, ⊤, List, [], ◌∷◌}
use Rattle.run_laws.specs.Prelude.{Begins, Entry, Line, Refusal}
use Rattle.run_laws.specs.Prelude.line

-- this recovery, of the entry's server, begins as the job of a number, and the line reports it
pub record TellsBegun (job : ℕ) (e : Entry) (x : Begins) (l : Line) : Type 0 where
  pub failed : x.job.failed ≡ e.no
  pub number : x.job.core.id ≡ job
  pub told : l ≡ line.Begun e.no e.code job

-- the line has what refuses the entry's recovery
abbrev pub TellsRefused : Entry → Line → Type 0
TellsRefused e l = (why : Refusal) × (l ≡ line.Refused e.no e.code why)

-- one line for each entry, in order: the next of these recoveries begins, with the number after the last job's, or the
-- entry is refused one
abbrev pub AreLinesOf : ℕ → List Entry → List Begins → List Line → Type 0
AreLinesOf last [] [] [] = ⊤
AreLinesOf last [] [] (l ∷ ls) = ⊥
AreLinesOf last [] (x ∷ xs) ls = ⊥
AreLinesOf last (e ∷ es) xs [] = ⊥
AreLinesOf last (e ∷ es) [] (l ∷ ls) = TellsRefused e l × AreLinesOf last es [] ls
AreLinesOf last (e ∷ es) (x ∷ xs) (l ∷ ls) =
    (TellsBegun (last + 1) e x l × AreLinesOf (last + 1) es xs ls) ⊎ (TellsRefused e l × AreLinesOf last es (x ∷ xs) ls)
