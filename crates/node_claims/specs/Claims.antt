-- Claims: of several nodes that share the kept rows one is active (orchestrator's documentation, "Orchestrator high
-- availability").
use Rattle.std.specs.Prelude.{ℕ, ◌+◌, ◌≤◌, ◌==◌, ◌&&◌, Bool, false, List, length, Option, Some, None, nat_lt, not, replicate, slice_index_or, slice_set, zero, suc, if◌then◌else◌}
use Rattle.orch_base.specs.declared.server.Moment.{Moment}
use Rattle.node_claims.specs.declared.claims.ClaimAnswer.{ClaimAnswer}
use Rattle.node_claims.specs.declared.claims.ClaimAnswer.TheVariants as claim
use Rattle.node_claims.specs.declared.claims.ReleaseAnswer.{ReleaseAnswer}
use Rattle.node_claims.specs.declared.claims.ReleaseAnswer.TheVariants as release

-- the kept claim: a node and the first moment at which it no longer lasts. `remembered` has for each node, the first of
-- them node 1, until when it remembers that it is active.
pub record ClaimState : Type 0 where
  pub kept : Option (ℕ × Moment)
  pub remembered : List (Option Moment)

-- one of the nodes, counted from 1
pub record IsNode (s : ClaimState) (node : ℕ) : Type 0 where
  pub first : 1 ≤ node
  pub last : node ≤ length s.remembered

-- so many nodes that remember nothing
abbrev pub made : ℕ → Option (ℕ × Moment) → ClaimState
made nodes kept = record { kept = kept; remembered = replicate nodes None }

-- ---- what a node remembers

abbrev pub remembered_by : ClaimState → ℕ → Option Moment
remembered_by s zero = None
remembered_by s (suc place) = slice_index_or s.remembered place None

-- the same claims, if the node remembers this
abbrev pub with_remembered : ClaimState → ℕ → Option Moment → ClaimState
with_remembered s zero until = s
with_remembered s (suc place) until = record s { remembered = slice_set s.remembered place until }

-- a moment that hasn't come
abbrev pub is_later : ℕ → Option Moment → Bool
is_later now None = false
is_later now (Some until) = nat_lt now until.0

-- ---- claiming

-- a claim lasts 60 seconds
abbrev pub until_from : ℕ → Moment
until_from now = record { 0 = now + 60 }

-- taken exactly if the kept claim is another node's and lasts
abbrev pub claim_by : Option (ℕ × Moment) → ℕ → ℕ → ClaimAnswer
claim_by None node now = claim.Held (until_from now)
claim_by (Some kept) node now =
    if not (kept.0 == node) && nat_lt now kept.1.0 then claim.Taken kept.0 kept.1 else claim.Held (until_from now)

abbrev pub claim_answer : ClaimState → ℕ → ℕ → ClaimAnswer
claim_answer s node now = claim_by s.kept node now

-- a claim that a node gets is kept and remembered
abbrev pub after_answer : ClaimState → ℕ → ClaimAnswer → ClaimState
after_answer s node (claim.Taken other until) = s
after_answer s node (claim.Held until) = record (with_remembered s node (Some until)) { kept = Some (node, until) }

abbrev pub after_claim : ClaimState → ℕ → ℕ → ClaimState
after_claim s node now = after_answer s node (claim_answer s node now)

-- ---- releasing

-- whether the kept claim is the node's
abbrev pub is_of : ℕ → Option (ℕ × Moment) → Bool
is_of node None = false
is_of node (Some kept) = kept.0 == node

abbrev pub release_answer : ClaimState → ℕ → ReleaseAnswer
release_answer s node = if is_of node s.kept then release.Released else release.NotHeld

abbrev pub after_release : ClaimState → ℕ → ClaimState
after_release s node = if is_of node s.kept then record (with_remembered s node None) { kept = None } else s

-- ---- acting

abbrev pub may_act : ClaimState → ℕ → ℕ → Bool
may_act s node now = is_later now (remembered_by s node)

abbrev pub after_act : ClaimState → ℕ → ℕ → ClaimState
after_act s node now = if may_act s node now then s else with_remembered s node None

-- the node whose claim is kept, if it may act
abbrev pub active_by : ClaimState → ℕ → Option (ℕ × Moment) → Option ℕ
active_by s now None = None
active_by s now (Some kept) = if may_act s kept.0 now then Some kept.0 else None

abbrev pub active : ClaimState → ℕ → Option ℕ
active s now = active_by s now s.kept
