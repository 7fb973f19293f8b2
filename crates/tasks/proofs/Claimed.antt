-- A single command's claim decides whether it is taken.
use Rattle.std.proofs.Common.{◌≡◌, ◌∙◌, ℕ, Bool, true, false, cond, List, refl, sym, ap, subst, Option, Some, None, ◌==◌, ◌&&◌, nat_lt, not}
use Rattle.tasks.proofs.Prelude.{ClaimAnswer, ClaimedCommandsAreTaken, ClaimState, CommandTurn, Moment, Row, State, TakenClaimsTakeNoCommand, Turn}
use Rattle.tasks.proofs.Prelude.{act_claimed, active, active_by, active_in, after_answer, after_done, claim_ahead, claim_by, claim_without, claimed}
use Rattle.tasks.proofs.Prelude.{command_as, is_alone, is_of, may_act, nodes-step, own_turn, step, taker, taker_by, until_from}
use Rattle.tasks.proofs.Prelude.act
use Rattle.tasks.proofs.Prelude.claim
use Rattle.tasks.proofs.Prelude.turn

-- who claims ahead is one of several, of whom none is active
pub several : (s : State) (t : Turn) → claim_ahead s ≡ Some t → is_alone s ≡ false
several s t is = by (is_alone s) (active_in s) is
  where
    by : (b : Bool) (o : Option ℕ) → cond b None (claim_without o) ≡ Some t → b ≡ false
    by true o e = absurd cc
    by false o e = refl

pub inactive : (s : State) (t : Turn) → claim_ahead s ≡ Some t → active_in s ≡ None
inactive s t is = by (is_alone s) (active_in s) is
  where
    by : (b : Bool) (o : Option ℕ) → cond b None (claim_without o) ≡ Some t → o ≡ None
    by true o e = absurd cc
    by false (Some node) e = absurd cc
    by false None e = refl

-- the command's turn after the claim, by who takes it
own-after : (rows : List Row) (s : State) (c : CommandTurn) (t : Turn) (o : Option ℕ) → is_alone s ≡ false → taker (step rows s t) ≡ o → own_turn c (step rows s t) ≡ command_as c o
own-after rows s c t o many takes =
    let alone : is_alone (step rows s t) ≡ false = ap (λ (n : ℕ). n == 1) (nodes-step rows s t) ∙ many in
    ap (λ (b : Bool). cond b (Some (turn.Act (act.Command c))) (command_as c (taker (step rows s t)))) alone ∙ ap (command_as c) takes

-- the first one's claim is kept
first-takes : (k : ClaimState) (now : ℕ) (until : Moment) → k.kept ≡ Some (1, until) → taker_by (active k now) (is_of 1 k.kept) ≡ Some 1
first-takes k now until is = subst (λ (o : Option (ℕ × Moment)). taker_by (active_by k now o) (is_of 1 o) ≡ Some 1) (sym is) (by (may_act k 1 now))
  where
    by : (b : Bool) → taker_by (cond b (Some 1) None) true ≡ Some 1
    by true = refl
    by false = refl

pub claimed-taken : ClaimedCommandsAreTaken
claimed-taken rows s c until ahead held =
    own-after rows s c (turn.Claim 1) (Some 1) (several s (turn.Claim 1) ahead)
    (first-takes (step rows s (turn.Claim 1)).claims (step rows s (turn.Claim 1)).moment until (ap (λ (a : ClaimAnswer). (after_answer s.claims 1 a).kept) held))

-- another's is
other-kept : (kept : Option (ℕ × Moment)) (now other : ℕ) (until : Moment) → claim_by kept 1 now ≡ claim.Taken other until → is_of 1 kept ≡ false
other-kept None now other until e = absurd cc
other-kept (Some k) now other until e = by (k.0 == 1) (nat_lt now k.1.0) e
  where
    by : (same lasts : Bool) → cond (not same && lasts) (claim.Taken k.0 k.1) (claim.Held (until_from now)) ≡ claim.Taken other until → same ≡ false
    by false lasts e = refl
    by true lasts e = absurd cc

module _ (rows : List Row) (s : State) (other : ℕ) (until : Moment) (ahead : claim_ahead s ≡ Some (turn.Claim 1)) (took : claimed s 1 ≡ claim.Taken other until) where
  abbrev now : State
  now = step rows s (turn.Claim 1)

  claims-stay : now.claims ≡ s.claims
  claims-stay = ap (after_answer s.claims 1) took

  moment-stays : now.moment ≡ s.moment
  moment-stays = ap (λ (a : ClaimAnswer). (after_done rows s (act_claimed s.last_holder 1 a)).moment) took

  none-takes : taker now ≡ None
  none-takes =
      ap (λ (k : ClaimState). taker_by (active k now.moment) (is_of 1 k.kept)) claims-stay
      ∙ (ap (λ (m : ℕ). taker_by (active s.claims m) (is_of 1 s.claims.kept)) moment-stays
      ∙ (ap (λ (o : Option ℕ). taker_by o (is_of 1 s.claims.kept)) (inactive s (turn.Claim 1) ahead) ∙ ap (taker_by None) (other-kept s.claims.kept s.moment other until took)))

pub taken-takes-none : TakenClaimsTakeNoCommand
taken-takes-none rows s c other until ahead took = own-after rows s c (turn.Claim 1) None (several s (turn.Claim 1) ahead) (none-takes rows s other until ahead took)
