-- The tries of a scan.
use Rattle.std.specs.Prelude.{◌≡◌, ◌⊎◌, ℕ, ◌+◌, ⊤, All, List, [], ◌∷◌, Option, None}
use Rattle.move_laws.specs.Prelude.{Attempt, AuditState, BookState, Entry, Line, Refusal, ServerNo, World, begun, taken}
use Rattle.recovery_core.specs.Tries.{Begins}
use Rattle.move_laws.specs.Prelude.line
use Rattle.move_laws.specs.Lowest.{IsLowest, recovery_checks}

-- what a scan goes by: the servers, the book, and how each server is tried
pub record Scan : Type 0 where
  pub world : World
  pub book : BookState
  pub by : ServerNo → Attempt

-- what the tries so far have left: the leases, the audit, and the number of the last job
pub record Left : Type 0 where
  pub leases : List (Option ℕ)
  pub audit : AuditState
  pub last : ℕ

-- after one more recovery, which takes the leases of its list as the next job
abbrev pub after_begun : Left → Begins → Left
after_begun at x = record { leases = taken at.leases x.list (at.last + 1); audit = begun at.audit x.entry; last = at.last + 1 }

-- what each check of the permission table refuses of an entry there
abbrev pub checks_at : Scan → Left → Entry → List (Option Refusal)
checks_at s at e = recovery_checks s.world (record s.book { leases = at.leases }) at.audit (s.by e.no) e.no

-- no check refuses it: this recovery of its server begins as the next job, and the line reports it
pub record IsBegunTry (s : Scan) (at : Left) (e : Entry) (x : Begins) (l : Line) : Type 0 where
  pub passed : All (λ c. c ≡ None) (checks_at s at e)
  pub failed : x.job.failed ≡ e.no
  pub number : x.job.core.id ≡ at.last + 1
  pub told : l ≡ line.Begun e.no e.code (at.last + 1)

-- a check refuses it: the line reports what refuses it with the lowest number
pub record IsRefusedTry (s : Scan) (at : Left) (e : Entry) (l : Line) : Type 0 where
  pub why : Refusal
  pub lowest : IsLowest (checks_at s at e) why
  pub told : l ≡ line.Refused e.no e.code why

-- one line for each entry, in order, each tried on what those before it left: the next of these recoveries begins, or
-- the entry's is refused
abbrev pub AreTries : Scan → Left → List Entry → List Begins → List Line → Type 0
AreTries s at [] [] [] = ⊤
AreTries s at [] [] (l ∷ ls) = ⊥
AreTries s at [] (x ∷ xs) ls = ⊥
AreTries s at (e ∷ es) xs [] = ⊥
AreTries s at (e ∷ es) [] (l ∷ ls) = IsRefusedTry s at e l × AreTries s at es [] ls
AreTries s at (e ∷ es) (x ∷ xs) (l ∷ ls) =
    (IsBegunTry s at e x l × AreTries s (after_begun at x) es xs ls) ⊎ (IsRefusedTry s at e l × AreTries s at es (x ∷ xs) ls)
