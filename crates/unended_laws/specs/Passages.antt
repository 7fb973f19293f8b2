-- The `Passage`s of unended jobs' turns, and those that are no job's.
use Rattle.std.specs.Prelude.{◌≡◌, ℕ, ◌==◌, Bool, true, List, [], ◌∷◌, Option, Some, None}
use Rattle.unended_laws.specs.Prelude.{Beginning, BookState, Discovering, Exchanging, Forgetting, Moment, Observation, Passage, Polling, Restarting}
use Rattle.unended_laws.specs.Prelude.{ServerNo, Storing, Taking, Turning, Unended, World, as_turn, flown, hooked, list_any}
use Rattle.unended_laws.specs.Prelude.unended

-- the turn of the job of this number: by the operations of its plan, or as its recovery decides it, or by a hook
abbrev pub passage_of : World → BookState → ℕ → Moment → Bool → ℕ → Unended → Passage
passage_of w b read now keeps id (unended.Plan j) = Turning id read now keeps
passage_of w b read now keeps id (unended.Recovery r docket) = Taking id (as_turn id (hooked w b read now r docket).taken) keeps

-- none if there is no such job; what the turn observes decides which readings are stored
abbrev pub passages_by : World → BookState → ℕ → Moment → (Option Observation → Bool) → ℕ → Option Unended → List Passage
passages_by w b read now keeps id None = []
passages_by w b read now keeps id (Some u) = passage_of w b read now (keeps (flown w b read now u).observation) id u ∷ []

-- it begins no job, is no job's turn and no restart: it leaves the jobs as they are
abbrev pub IsApart : Passage → Type 0
IsApart (Exchanging e) = Unit {0}
IsApart (Polling p n read now) = Unit {0}
IsApart (Storing p keeps) = Unit {0}
IsApart (Discovering n read now) = Unit {0}
IsApart (Forgetting n) = Unit {0}
IsApart Restarting = ⊥
IsApart (Beginning list j) = ⊥
IsApart (Turning id read now keeps) = ⊥
IsApart (Taking id t keeps) = ⊥

-- a server is of the list of those that a job leases as it begins
abbrev pub IsListed : List ServerNo → ℕ → Type 0
IsListed list n = list_any (λ k. k.0 == n) list ≡ true
