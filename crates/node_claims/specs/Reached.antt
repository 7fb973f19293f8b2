-- What claims come to, and who is active then.
use Rattle.std.specs.Prelude.{◌≡◌, ℕ, ◌<◌, ◌≤◌, Option, Some}
use Rattle.orch_base.specs.declared.server.Moment.{Moment}
use Rattle.node_claims.specs.Claims.{ClaimState, after_act, after_claim, after_release, made, remembered_by, IsNode}

-- a node is active at a moment: it remembers a later one
pub record IsActive (s : ClaimState) (node now : ℕ) : Type 0 where
  pub until : Moment
  pub remembered : remembered_by s node ≡ Some until
  pub later : now < until.0

-- claims that are made of any kept claim, and then come of nodes that claim, release and act, in any order and at
-- moments that never fall
pub data IsReached : ClaimState → ℕ → Type 0 where
  Made : (nodes : ℕ) (kept : Option (ℕ × Moment)) (now : ℕ) → IsReached (made nodes kept) now
  Later : (s : ClaimState) (now later : ℕ) → now ≤ later → IsReached s now → IsReached s later
  Claimed : (s : ClaimState) (node now : ℕ) → IsNode s node → IsReached s now → IsReached (after_claim s node now) now
  Released : (s : ClaimState) (node now : ℕ) → IsNode s node → IsReached s now → IsReached (after_release s node) now
  Acted : (s : ClaimState) (node now : ℕ) → IsNode s node → IsReached s now → IsReached (after_act s node now) now
