-- Several orchestrators over the same kept rows: which of them acts, what a claim comes to, and which turn is
-- orchestrator's.
use Rattle.std.specs.Prelude.{ℕ, ◌==◌, ◌&&◌, Bool, false, not, List, [], ◌∷◌, Option, Some, None, fold, option_map, if◌then◌else◌}
use Rattle.orch_core.specs.Prelude.{Act, Change, ClaimAnswer, ClaimState, Moment, Row, Turn}
use Rattle.orch_core.specs.Prelude.act
use Rattle.orch_core.specs.Prelude.change
use Rattle.orch_core.specs.Prelude.claim
use Rattle.orch_core.specs.Prelude.claims
use Rattle.orch_core.specs.Prelude.key
use Rattle.orch_core.specs.Prelude.row
use Rattle.orch_core.specs.Prelude.table
use Rattle.orch_core.specs.Prelude.turn
use Rattle.orch_core.specs.States.{State}

-- ---- claims

-- the claim that a row is, or the one so far
abbrev pub claim_or : Option (ℕ × Moment) → Row → Option (ℕ × Moment)
claim_or kept (row.Active node until) = Some (node, until)
claim_or kept (row.Instance i) = kept
claim_or kept (row.Downtime d) = kept
claim_or kept (row.Candidate c) = kept
claim_or kept (row.Recovery r) = kept
claim_or kept (row.Switch enabled) = kept

-- the kept claim of rows
abbrev pub kept_claim : List Row → Option (ℕ × Moment)
kept_claim rows = fold claim_or None rows

-- the node of a claim
abbrev pub holder_of : Option (ℕ × Moment) → Option ℕ
holder_of kept = option_map (λ k. k.0) kept

-- what the node's claim is answered
abbrev pub claimed : State → ℕ → ClaimAnswer
claimed s node = claims.claim_answer s.claims node s.moment

-- a claim that was got passes to this node if another one had the last
abbrev pub passes_to : Option ℕ → ℕ → Bool
passes_to None node = false
passes_to (Some last) node = not (last == node)

-- it is kept so already
abbrev pub is_kept_so : Option (ℕ × Moment) → ℕ → Moment → Bool
is_kept_so None node until = false
is_kept_so (Some kept) node until = (kept.0 == node) && (kept.1.0 == until.0)

-- the change of the kept rows that a claim makes: the row of one that was got is put, if it isn't kept already
abbrev pub claim_changes_by : Option (ℕ × Moment) → ℕ → ClaimAnswer → List Change
claim_changes_by kept node (claim.Taken other until) = []
claim_changes_by kept node (claim.Held until) = if is_kept_so kept node until then [] else change.Put (row.Active node until) ∷ []

abbrev pub claim_changes : State → ℕ → List Change
claim_changes s node = claim_changes_by s.claims.kept node (claimed s node)

-- and one that is given back: its row is removed
abbrev pub release_changes_by : Option (ℕ × Moment) → ℕ → List Change
release_changes_by kept node = if claims.is_of node kept then change.Remove table.Active key.Active ∷ [] else []

abbrev pub release_changes : State → ℕ → List Change
release_changes s node = release_changes_by s.claims.kept node

-- ---- what orchestrator does

-- the node remembers that it is active
abbrev pub acts : State → ℕ → Bool
acts s node = claims.may_act s.claims node s.moment

-- if a claim passes to another node, orchestrator starts again
abbrev pub act_claimed : Option ℕ → ℕ → ClaimAnswer → Option Act
act_claimed last node (claim.Taken other until) = None
act_claimed last node (claim.Held until) = if passes_to last node then Some act.Restart else None

-- What orchestrator does in a turn, if anything: one of several only if it remembers that it is active.
abbrev pub act_in : State → Turn → Option Act
act_in s (turn.Step x) = None
act_in s (turn.Tick seconds) = None
act_in s (turn.Act a) = Some a
act_in s (turn.As node a) = if acts s node then Some a else None
act_in s (turn.Claim node) = act_claimed s.last_holder node (claimed s node)
act_in s (turn.Release node) = None

-- ---- the claims after a turn

abbrev pub claims_after : State → Turn → ClaimState
claims_after s (turn.Step x) = s.claims
claims_after s (turn.Tick seconds) = s.claims
claims_after s (turn.Act a) = s.claims
claims_after s (turn.As node a) = claims.after_act s.claims node s.moment
claims_after s (turn.Claim node) = claims.after_claim s.claims node s.moment
claims_after s (turn.Release node) = claims.after_release s.claims node

-- the node that got a claim last
abbrev pub holder_by : Option ℕ → ℕ → ClaimAnswer → Option ℕ
holder_by last node (claim.Taken other until) = last
holder_by last node (claim.Held until) = Some node

abbrev pub holder_after : State → Turn → Option ℕ
holder_after s (turn.Step x) = s.last_holder
holder_after s (turn.Tick seconds) = s.last_holder
holder_after s (turn.Act a) = s.last_holder
holder_after s (turn.As node a) = s.last_holder
holder_after s (turn.Claim node) = holder_by s.last_holder node (claimed s node)
holder_after s (turn.Release node) = s.last_holder

-- the state, with the claims as the turn leaves them
abbrev pub with_claims : State → Turn → State → State
with_claims s t now = record now { claims = claims_after s t; last_holder = holder_after s t }
