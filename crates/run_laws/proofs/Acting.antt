-- Turns of one of several orchestrators are those of a single one, and a claim that passes is a restart.
use Rattle.std.proofs.Common.{◌≡◌, ◌∙◌, ◌⊎◌, ℕ, ◌+◌, Bool, true, false, ◌++◌, Option, Some, None, refl, sym, ap, inl, inr, not, ◌==◌, ◌&&◌, if◌then◌else◌, nat_lt}
use Rattle.run_laws.proofs.Prelude.{Act, ActiveActAlike, ClaimAnswer, ClaimState, HeldLastAMinute, IsRestartAndClaim, LapsedKeepNothing, Moment}
use Rattle.run_laws.proofs.Prelude.{PassingRestarts, RenewingClaimsAlone, State, TakenChangeNothing, act-keeps as same-claims, act_claimed, act_in}
use Rattle.run_laws.proofs.Prelude.{after_act, after_done, claim_changes, claim_changes_by, claim_reply, claimed, claims_after, done_changes}
use Rattle.run_laws.proofs.Prelude.{done_reply, eq-eqb, holder_by, passes_to, with_claims}
use Rattle.run_laws.proofs.Prelude.act
use Rattle.run_laws.proofs.Prelude.answered
use Rattle.run_laws.proofs.Prelude.claim
use Rattle.run_laws.proofs.Prelude.claims
use Rattle.run_laws.proofs.Prelude.turn
use Rattle.run_laws.proofs.NodeClaims.{held-answer, passes-on}

-- ---- turns

pub active-alike : (s : State) → ActiveActAlike s
active-alike s node a may =
    let does : act_in s (turn.As node a) ≡ Some a = ap (λ (b : Bool). if b then Some a else None) may in
    let stays : claims_after s (turn.As node a) ≡ s.claims = ap (λ (b : Bool). if b then s.claims else claims.with_remembered s.claims node None) may in
    record {
      reply = ap (done_reply s) does;
      changes = λ rows. ap (done_changes rows s) does;
      state = λ rows.
          ap (λ (o : Option Act). with_claims s (turn.As node a) (after_done rows s o)) does
          ∙ (ap (λ (k : ClaimState). record (after_act rows s a) { claims = k; last_holder = s.last_holder }) stays ∙ same-claims rows s a);
    }

pub lapsed-keep-nothing : (s : State) → LapsedKeepNothing s
lapsed-keep-nothing s node a may =
    let does : act_in s (turn.As node a) ≡ None = ap (λ (b : Bool). if b then Some a else None) may in
    record { reply = ap (done_reply s) does; changes = λ rows. ap (done_changes rows s) does }

-- ---- claims

held-minute : (s : ClaimState) (node now : ℕ) (until : Moment) → claims.claim_answer s node now ≡ claim.Held until → until.0 ≡ now + 60
held-minute s node now until = go s.kept
  where
    same-end : claim.Held (claims.until_from now) ≡ claim.Held until → until.0 ≡ now + 60
    same-end e = let same : claims.until_from now ≡ until = cc in sym (ap (λ (m : Moment). m.0) same)

    by : (b : Bool) (other : ℕ) (end : Moment) → (if b then claim.Taken other end else claim.Held (claims.until_from now)) ≡ claim.Held until → until.0 ≡ now + 60
    by true other end e = cc
    by false other end e = same-end e

    go : (o : Option (ℕ × Moment)) → claims.claim_by o node now ≡ claim.Held until → until.0 ≡ now + 60
    go None e = same-end e
    go (Some kept) e = by (not (kept.0 == node) && nat_lt now kept.1.0) kept.0 kept.1 e

pub held-last : (s : State) → HeldLastAMinute s
held-last s node until held = held-minute s.claims node s.moment until (held-answer (claimed s node) until held)

-- what orchestrator does if this is its turn's
restart-claim : (s : State) (node : ℕ) → act_in s (turn.Claim node) ≡ Some act.Restart → IsRestartAndClaim s node
restart-claim s node does = record {
  state = λ rows. ap (λ (o : Option Act). with_claims s (turn.Claim node) (after_done rows s o)) does;
  changes = λ rows. ap (λ (o : Option Act). done_changes rows s o ++ claim_changes s node) does;
}

pub passing-is-restart : (s : State) → PassingRestarts s
passing-is-restart s node last until held holder differs =
    let answer : claimed s node ≡ claim.Held until = held-answer (claimed s node) until held in
    let passes : passes_to s.last_holder node ≡ true = ap (λ (o : Option ℕ). passes_to o node) holder ∙ passes-on last node differs in
    restart-claim s node (ap (act_claimed s.last_holder node) answer ∙ ap (λ (b : Bool). if b then Some act.Restart else None) passes)

-- it doesn't pass to the node that had the last
stays-there : (o : Option ℕ) (node : ℕ) → (o ≡ None) ⊎ (o ≡ Some node) → passes_to o node ≡ false
stays-there o node (inl none) = ap (λ (x : Option ℕ). passes_to x node) none
stays-there o node (inr same) = ap (λ (x : Option ℕ). passes_to x node) same ∙ ap not (eq-eqb node node refl)

pub renewing-alone : (s : State) → RenewingClaimsAlone s
renewing-alone s node until held holder =
    let answer : claimed s node ≡ claim.Held until = held-answer (claimed s node) until held in
    let does : act_in s (turn.Claim node) ≡ None = ap (act_claimed s.last_holder node) answer ∙ ap (λ (b : Bool). if b then Some act.Restart else None) (stays-there s.last_holder node holder) in
    record {
      state = λ rows. ap (λ (o : Option Act). with_claims s (turn.Claim node) (after_done rows s o)) does;
      changes = λ rows. ap (λ (o : Option Act). done_changes rows s o ++ claim_changes s node) does;
    }

taken-answer : (a : ClaimAnswer) (other : ℕ) (until : Moment) → claim_reply a ≡ answered.Taken other until → a ≡ claim.Taken other until
taken-answer (claim.Held end) other until e = absurd cc
taken-answer (claim.Taken node end) other until e = cc

pub taken-nothing : (s : State) → TakenChangeNothing s
taken-nothing s rows node other until taken =
    let answer : claimed s node ≡ claim.Taken other until = taken-answer (claimed s node) other until taken in
    let does : act_in s (turn.Claim node) ≡ None = ap (act_claimed s.last_holder node) answer in (
      ap (λ (o : Option Act). with_claims s (turn.Claim node) (after_done rows s o)) does
          ∙ (ap (λ (k : ClaimAnswer). record s { claims = claims.after_answer s.claims node k; last_holder = holder_by s.last_holder node k }) answer),
      ap (λ (o : Option Act). done_changes rows s o ++ claim_changes s node) does ∙ ap (claim_changes_by s.claims.kept node) answer,
    )
