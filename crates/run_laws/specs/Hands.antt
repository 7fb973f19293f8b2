-- What plans have in their hands.
use Rattle.std.specs.Prelude.{◌≡◌, ℕ, ◌⊎◌, false, List, [], ◌∷◌, None, All}
use Rattle.run_laws.specs.Prelude.{Job, Line, ServerNo, Unended, is_in_hands}
use Rattle.run_laws.specs.Prelude.line
use Rattle.run_laws.specs.Prelude.op
use Rattle.run_laws.specs.Prelude.unended
use Rattle.run_laws.specs.Runs.{InEveryState}
use Rattle.run_laws.specs.Stopping.{left_stopped}

-- what a job has in its hands is started by what is left of it, and so is what that stops
abbrev pub StartsAll : Job → Type 0
StartsAll j = (n : ℕ) → left_stopped n (is_in_hands j n) j.ops ≡ false

-- what is left of a stop of one replica, and its hands then
abbrev pub StopsOne : ServerNo → Job → Type 0
StopsOne i j =
    ((j.ops ≡ op.Stop i ∷ op.Status i None ∷ op.Finish (line.Server i ∷ []) ∷ []) × (j.hands ≡ []))
    ⊎ (((j.ops ≡ op.Status i None ∷ op.Finish (line.Server i ∷ []) ∷ []) × (j.hands ≡ i ∷ [])) ⊎ ((j.ops ≡ op.Finish (line.Server i ∷ []) ∷ []) × (j.hands ≡ i ∷ [])))

-- a plan starts all that it stops, or is a stop of one replica
abbrev pub Returns : Unended → Type 0
Returns (unended.Plan j) = StartsAll j ⊎ ((i : ServerNo) × StopsOne i j)
Returns (unended.Recovery r docket) = Unit {0}

-- once nothing is left but its lines, nothing is in its hands, except what a stop of one replica stopped
abbrev pub HoldsNone : Unended → Type 0
HoldsNone (unended.Plan j) = (lines : List Line) → j.ops ≡ op.Finish lines ∷ [] → (j.hands ≡ []) ⊎ ((i : ServerNo) × (lines ≡ line.Server i ∷ []) × (j.hands ≡ i ∷ []))
HoldsNone (unended.Recovery r docket) = Unit {0}

-- so does each job of each state of each run
abbrev pub PlansReturn : Type 0
PlansReturn = InEveryState (λ s. All (λ u. Returns u × HoldsNone u) s.jobs)
