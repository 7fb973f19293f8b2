-- Turns of several orchestrators are turns of one, with the claims as they are left.
use Rattle.std.proofs.Common.{◌≡◌, ◌∙◌, ℕ, Bool, true, false, List, length, Option, Some, None, refl, sym, ap, IfSome, if◌then◌else◌}
use Rattle.orch_core.proofs.Prelude.{Act, ClaimAnswer, ClaimState, IsAct, IsTurn, Row, State, Turn, act_claimed, act_in, acted_long, acts}
use Rattle.orch_core.proofs.Prelude.{after_act, after_done, answered_long, asks, changes_of, claimed, done_asks, done_changes, done_reply, nodes_of}
use Rattle.orch_core.proofs.Prelude.{passes_to, released_long, reply_of, step, with_claims}
use Rattle.orch_core.proofs.Prelude.act
use Rattle.orch_core.proofs.Prelude.claim
use Rattle.orch_core.proofs.Prelude.claims
use Rattle.orch_core.proofs.Prelude.turn

-- ---- what orchestrator does leaves the claims

pub act-keeps : (rows : List Row) (s : State) (a : Act) → record (after_act rows s a) { claims = s.claims; last_holder = s.last_holder } ≡ after_act rows s a
act-keeps rows s (act.PollRead p n) = refl
act-keeps rows s _ = refl

-- ---- one of several that acts

module _ (s : State) (node : ℕ) (a : Act) (does : acts s node ≡ true) where
  acting : act_in s (turn.As node a) ≡ Some a
  acting = ap (λ (b : Bool). if b then Some a else None) does

  pub same-claims : claims.after_act s.claims node s.moment ≡ s.claims
  same-claims = ap (λ (b : Bool). if b then s.claims else claims.with_remembered s.claims node None) does

  pub step-acting : (rows : List Row) → step rows s (turn.Act a) ≡ step rows s (turn.As node a)
  step-acting rows =
      sym (act-keeps rows s a) ∙ ap (λ (c : ClaimState). record (after_act rows s a) { claims = c; last_holder = s.last_holder }) (sym same-claims)
      ∙ ap (λ (o : Option Act). with_claims s (turn.As node a) (after_done rows s o)) (sym acting)

  pub changes-acting : (rows : List Row) → changes_of rows s (turn.Act a) ≡ changes_of rows s (turn.As node a)
  changes-acting rows = ap (done_changes rows s) (sym acting)

  pub asks-acting : asks s (turn.Act a) ≡ asks s (turn.As node a)
  asks-acting = ap done_asks (sym acting)

  pub reply-acting : reply_of s (turn.Act a) ≡ reply_of s (turn.As node a)
  reply-acting = ap (done_reply s) (sym acting)

-- ---- and one that lapsed

module _ (s : State) (node : ℕ) (a : Act) (lapsed : acts s node ≡ false) where
  idling : act_in s (turn.As node a) ≡ None
  idling = ap (λ (b : Bool). if b then Some a else None) lapsed

  pub step-lapsed : (rows : List Row) → record s { claims = claims.after_act s.claims node s.moment } ≡ step rows s (turn.As node a)
  step-lapsed rows = ap (λ (o : Option Act). with_claims s (turn.As node a) (after_done rows s o)) (sym idling)

-- ---- what orchestrator does in a turn over servers

if-act : (count : ℕ) (b : Bool) (a : Act) → IsAct count a → IfSome (if b then Some a else None) (IsAct count)
if-act count true a is = is
if-act count false a is = tt

claimed-act : (count : ℕ) (last : Option ℕ) (node : ℕ) (a : ClaimAnswer) → IfSome (act_claimed last node a) (IsAct count)
claimed-act count last node (claim.Taken other until) = tt
claimed-act count last node (claim.Held until) = if-act count (passes_to last node) act.Restart tt

pub act-fits : (count : ℕ) (s : State) (t : Turn) → IsTurn count t → IfSome (act_in s t) (IsAct count)
act-fits count s (turn.Act a) is = is
act-fits count s (turn.As node a) is = if-act count (acts s node) a is
act-fits count s (turn.Claim node) is = claimed-act count s.last_holder node (claimed s node)
act-fits count s _ is = tt

-- ---- as many orchestrators as before

pub nodes-acted : (c : ClaimState) (node now : ℕ) → length (claims.after_act c node now).remembered ≡ length c.remembered
nodes-acted c node now = acted_long c node (claims.may_act c node now)

pub nodes-claimed : (c : ClaimState) (node now : ℕ) → length (claims.after_claim c node now).remembered ≡ length c.remembered
nodes-claimed c node now = answered_long c node (claims.claim_answer c node now)

pub nodes-released : (c : ClaimState) (node : ℕ) → length (claims.after_release c node).remembered ≡ length c.remembered
nodes-released c node = released_long c node (claims.is_of node c.kept)

pub nodes-step : (rows : List Row) (s : State) (t : Turn) → nodes_of (step rows s t) ≡ nodes_of s
nodes-step rows s (turn.Step x) = refl
nodes-step rows s (turn.Tick seconds) = refl
nodes-step rows s (turn.Act a) = by a
  where
    by : (a : Act) → nodes_of (after_act rows s a) ≡ nodes_of s
    by (act.PollRead p n) = refl
    by _ = refl
nodes-step rows s (turn.As node a) = nodes-acted s.claims node s.moment
nodes-step rows s (turn.Claim node) = nodes-claimed s.claims node s.moment
nodes-step rows s (turn.Release node) = nodes-released s.claims node
