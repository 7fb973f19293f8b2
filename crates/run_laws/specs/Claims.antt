-- Several orchestrators through runs: who is active, who takes turns, and what is left if a claim passes.
use Rattle.std.specs.Prelude.{◌≡◌, ◌≢◌, ℕ, ◌<◌, ◌≤◌, ◌⊎◌, All, Bool, List, [], false, length, Option, None, Some, if◌then◌else◌}
use Rattle.run_laws.specs.Prelude.{Act, IsActive, IsReached, IsTurn, Moment, Row, Scenario, State, Turn, active, acts, after_restart, claim_or}
use Rattle.run_laws.specs.Prelude.{claims_after, counts, engine, greatest_id, number_of, reply_of, run_turns, sort_key, step, turns_of}
use Rattle.run_laws.specs.Prelude.answered
use Rattle.run_laws.specs.Prelude.key
use Rattle.run_laws.specs.Prelude.row
use Rattle.run_laws.specs.Prelude.table
use Rattle.run_laws.specs.Prelude.turn
use Rattle.run_laws.specs.Runs.{ComesBefore}

-- the claims are what nodes that claim, release and act come to, up to the moment
abbrev pub ClaimsAreReached : State → Type 0
ClaimsAreReached s = IsReached s.claims s.moment

-- at most one node is active
abbrev pub OneIsActive : State → Type 0
OneIsActive s = (a b : ℕ) → IsActive s.claims a s.moment → IsActive s.claims b s.moment → a ≡ b

-- and the kept claim is its own, until the moment that it remembers
abbrev pub ItsClaimIsKept : State → Type 0
ItsClaimIsKept s = (node : ℕ) → (is : IsActive s.claims node s.moment) → s.claims.kept ≡ Some (node, is.until)

-- a turn of one of several orchestrators that doesn't answer that it lapsed is the active one's
abbrev pub ActsWhereActive : State → Turn → Type 0
ActsWhereActive s t = (node : ℕ) (a : Act) → t ≡ turn.As node a → reply_of s t ≢ answered.Lapsed → active s.claims s.moment ≡ Some node

-- one whose node doesn't remember that it is active leaves the claims as they are then, and nothing else
abbrev pub LapsedDoesNothing : State → Turn → Type 0
LapsedDoesNothing s t = (rows : List Row) (node : ℕ) (a : Act) → t ≡ turn.As node a → acts s node ≡ false → step rows s t ≡ record s { claims = claims_after s t }

-- a node gets a claim only when that of another node has run out
abbrev pub ClaimsWait : State → Turn → Type 0
ClaimsWait s t = (node other : ℕ) (until end : Moment) → t ≡ turn.Claim node → reply_of s t ≡ answered.Held until → s.claims.kept ≡ Some (other, end) → other ≢ node → end.0 ≤ s.moment

-- if it passes from another node, orchestrator starts again: no job, lease, bridge or reading of a slot is left
abbrev pub PassingStartsAgain : State → Turn → Type 0
PassingStartsAgain s t = (rows : List Row) (node last : ℕ) (until : Moment) → t ≡ turn.Claim node → reply_of s t ≡ answered.Held until → s.last_holder ≡ Some last → last ≢ node
    → step rows s t ≡ record (after_restart rows s) { claims = claims_after s t; last_holder = Some node }

abbrev pub PassingLeavesNoJob : State → Turn → Type 0
PassingLeavesNoJob s t = (rows : List Row) (node last : ℕ) (until : Moment) → t ≡ turn.Claim node → reply_of s t ≡ answered.Held until → s.last_holder ≡ Some last → last ≢ node → (step rows s t).jobs ≡ []

-- and every job of every state that any turns then lead to was begun later: its number is above that of the last job
-- before
abbrev pub PassingLeavesNewJobs : ℕ → State → Turn → Type 0
PassingLeavesNewJobs count s t = (rows : List Row) (node last : ℕ) (until : Moment) (xs : List (List Row × Turn)) → t ≡ turn.Claim node → reply_of s t ≡ answered.Held until → s.last_holder ≡ Some last → last ≢ node
    → All (IsTurn count) (turns_of xs) → All (λ j. s.last_job < number_of j) (run_turns engine (step rows s t) xs).jobs

abbrev pub JobsAreBegunSince : Type 0
JobsAreBegunSince = (s : Scenario) (xs : List (List Row × Turn)) (now : State) (t : Turn) → ComesBefore s xs now t → PassingLeavesNewJobs (length s.opening.servers) now t

-- ---- the kept claim's row

abbrev pub claim_key : ℕ
claim_key = sort_key table.Active key.Active

-- the row that keeps a claim
abbrev pub claim_row : Option (ℕ × Moment) → Option Row
claim_row None = None
claim_row (Some kept) = Some (row.Active kept.0 kept.1)

-- the claim that a row gives, if it counts
abbrev pub claim_by_row : (Row → Bool) → Option Row → Option (ℕ × Moment)
claim_by_row counts None = None
claim_by_row counts (Some r) = if counts r then claim_or None r else None

-- The row is the kept claim's, or none if none is kept. One that doesn't count, which another program left, is there
-- until a claim is kept.
abbrev pub IsClaimRow : ℕ → Option Row → Option (ℕ × Moment) → Type 0
IsClaimRow count x kept = (x ≡ claim_row kept) ⊎ ((kept ≡ None) × (claim_by_row (counts count greatest_id) x ≡ None))
