-- Turns of one of several orchestrators, by the same turns of a single one; and what a claim comes to.
use Rattle.std.specs.Prelude.{◌≡◌, ◌≢◌, ◌⊎◌, ◌+◌, ◌++◌, ℕ, true, false, List, [], None, Some}
use Rattle.run_laws.specs.Prelude.{Act, Moment, Row, State, acts, changes_of, claim_changes, reply_of, step, with_claims}
use Rattle.run_laws.specs.Prelude.act
use Rattle.run_laws.specs.Prelude.answered
use Rattle.run_laws.specs.Prelude.turn

-- the turn of this node answers, keeps and does what the same turn without orchestrators does
pub record IsAlike (s : State) (node : ℕ) (a : Act) : Type 0 where
  pub reply : reply_of s (turn.As node a) ≡ reply_of s (turn.Act a)
  pub changes : (rows : List Row) → changes_of rows s (turn.As node a) ≡ changes_of rows s (turn.Act a)
  pub state : (rows : List Row) → step rows s (turn.As node a) ≡ step rows s (turn.Act a)

-- so is that of one that remembers that it is active
abbrev pub ActiveActAlike : State → Type 0
ActiveActAlike s = (node : ℕ) (a : Act) → acts s node ≡ true → IsAlike s node a

-- that of another one answers that it lapsed, and keeps nothing
pub record IsLapsed (s : State) (node : ℕ) (a : Act) : Type 0 where
  pub reply : reply_of s (turn.As node a) ≡ answered.Lapsed
  pub changes : (rows : List Row) → changes_of rows s (turn.As node a) ≡ []

abbrev pub LapsedKeepNothing : State → Type 0
LapsedKeepNothing s = (node : ℕ) (a : Act) → acts s node ≡ false → IsLapsed s node a

-- ---- a claim

-- the node has its claim until this moment
abbrev pub IsHeld : State → ℕ → Moment → Type 0
IsHeld s node until = reply_of s (turn.Claim node) ≡ answered.Held until

-- it lasts 60 seconds from the moment before it
abbrev pub HeldLastAMinute : State → Type 0
HeldLastAMinute s = (node : ℕ) (until : Moment) → IsHeld s node until → until.0 ≡ s.moment + 60

-- the claim does and keeps what a restart does and keeps, and the claim itself
pub record IsRestartAndClaim (s : State) (node : ℕ) : Type 0 where
  pub state : (rows : List Row) → step rows s (turn.Claim node) ≡ with_claims s (turn.Claim node) (step rows s (turn.Act act.Restart))
  pub changes : (rows : List Row) → changes_of rows s (turn.Claim node) ≡ changes_of rows s (turn.Act act.Restart) ++ claim_changes s node

-- so does one that passes from another node
abbrev pub PassingRestarts : State → Type 0
PassingRestarts s = (node last : ℕ) (until : Moment) → IsHeld s node until → s.last_holder ≡ Some last → last ≢ node → IsRestartAndClaim s node

-- the claim does and keeps nothing else
pub record IsClaimAlone (s : State) (node : ℕ) : Type 0 where
  pub state : (rows : List Row) → step rows s (turn.Claim node) ≡ with_claims s (turn.Claim node) s
  pub changes : (rows : List Row) → changes_of rows s (turn.Claim node) ≡ claim_changes s node

-- so does one of the node that had the last, and the first one of all
abbrev pub RenewingClaimsAlone : State → Type 0
RenewingClaimsAlone s = (node : ℕ) (until : Moment) → IsHeld s node until → (s.last_holder ≡ None) ⊎ (s.last_holder ≡ Some node) → IsClaimAlone s node

-- and one that another node's claim forestalls changes nothing
abbrev pub TakenChangeNothing : State → Type 0
TakenChangeNothing s = (rows : List Row) (node other : ℕ) (until : Moment) → reply_of s (turn.Claim node) ≡ answered.Taken other until
    → (step rows s (turn.Claim node) ≡ s) × (changes_of rows s (turn.Claim node) ≡ [])
