-- The kept rows follow the book and the audit, if nobody else changes them.
use Rattle.std.specs.Prelude.{◌≡◌, ◌≤◌, ◌^◌, ℕ, All, List, length}
use Rattle.run_laws.specs.Prelude.{Follow, FollowAudit, Held, IsRising, IsScenario, IsState, IsTurn, Row, Scenario, State, Turn, changed, changes_of}
use Rattle.run_laws.specs.Prelude.{engine, held_run, reloaded_audit, row_in, start, start_changes, step}
use Rattle.run_laws.specs.Claims.{IsClaimRow, claim_key}
use Rattle.run_laws.specs.Runs.{ComesTo}

-- the rows and the state after these turns from an opening, with each change kept
abbrev pub held_from : Scenario → ℕ → List Row → List Turn → Held State
held_from s wait rows ts = held_run engine (record { rows = changed rows (start_changes s rows); state = start s wait rows }) ts

-- ---- the book

abbrev pub OpeningsAreFollowed : Type 0
OpeningsAreFollowed = (s : Scenario) (wait : ℕ) (rows : List Row) → IsScenario s → IsRising rows → Follow (changed rows (start_changes s rows)) (start s wait rows).book

abbrev pub TurnsAreFollowed : Type 0
TurnsAreFollowed = (rows : List Row) (s : State) (t : Turn) → IsState s → IsTurn (length s.world.servers) t → (step rows s t).audit.next ≤ 2 ^ 64 → Follow rows s.book
    → Follow (changed rows (changes_of rows s t)) (step rows s t).book

abbrev pub RunsAreFollowed : Type 0
RunsAreFollowed = (s : Scenario) (wait : ℕ) (rows : List Row) (ts : List Turn) → IsScenario s → IsRising rows → All (IsTurn (length s.opening.servers)) ts
    → (held_from s wait rows ts).state.audit.next ≤ 2 ^ 64 → Follow (held_from s wait rows ts).rows (held_from s wait rows ts).state.book

-- ---- the audit

abbrev pub OpeningAuditsAreFollowed : Type 0
OpeningAuditsAreFollowed = (s : Scenario) (wait : ℕ) (rows : List Row) → IsScenario s → IsRising rows → FollowAudit (length s.opening.servers) (changed rows (start_changes s rows)) (start s wait rows).audit

abbrev pub TurnAuditsAreFollowed : Type 0
TurnAuditsAreFollowed = (rows : List Row) (s : State) (t : Turn) → IsState s → IsTurn (length s.world.servers) t → (step rows s t).audit.next ≤ 2 ^ 64 → Follow rows s.book → FollowAudit (length s.world.servers) rows s.audit
    → FollowAudit (length s.world.servers) (changed rows (changes_of rows s t)) (step rows s t).audit

abbrev pub RunAuditsAreFollowed : Type 0
RunAuditsAreFollowed = (s : Scenario) (wait : ℕ) (rows : List Row) (ts : List Turn) → IsScenario s → IsRising rows → All (IsTurn (length s.opening.servers)) ts
    → (held_from s wait rows ts).state.audit.next ≤ 2 ^ 64 → FollowAudit (length s.opening.servers) (held_from s wait rows ts).rows (held_from s wait rows ts).state.audit

-- ---- the claim

abbrev pub RunClaimsAreFollowed : Type 0
RunClaimsAreFollowed = (s : Scenario) (wait : ℕ) (rows : List Row) (ts : List Turn) → IsScenario s → IsRising rows → All (IsTurn (length s.opening.servers)) ts
    → (held_from s wait rows ts).state.audit.next ≤ 2 ^ 64 → IsClaimRow (length s.opening.servers) (row_in (held_from s wait rows ts).rows claim_key) (held_from s wait rows ts).state.claims.kept

-- ---- restarts

-- so a restart loads the audit whole
abbrev pub RestartsLoadAll : Type 0
RestartsLoadAll = (s : Scenario) (xs : List (List Row × Turn)) (now : State) (rows : List Row) → ComesTo s xs now → IsRising rows → FollowAudit (length s.opening.servers) rows now.audit → reloaded_audit rows now ≡ now.audit
