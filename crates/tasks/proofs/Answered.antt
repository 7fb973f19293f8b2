-- A command's plan is answered as the command would be.
use Rattle.std.proofs.Common.{◌≡◌, ◌∙◌, ℕ, Bool, true, false, cond, refl, sym, ap, subst, Option, Some, None}
use Rattle.tasks.proofs.Prelude.{ClaimAnswer, ClaimState, CommandTurn, Moment, PlansAreAnsweredAsCommands, PlansTellClaimsThatLast, Reply, State}
use Rattle.tasks.proofs.Prelude.{Turn, act_reply, active, active_by, active_in, acts, claim_without, command_as, done_reply, is_alone, is_of}
use Rattle.tasks.proofs.Prelude.{lasting_by, may_act, reply_of, same_Some, taken_by, taker_by, unwrap_or}
use Rattle.tasks.proofs.Prelude.act
use Rattle.tasks.proofs.Prelude.turn
use Rattle.tasks.proofs.Planning.{some_ahead}

-- who is active may act
active_acts : (k : ClaimState) (now node : ℕ) → active k now ≡ Some node → may_act k node now ≡ true
active_acts k now node = by k.kept
  where
    at : (kept : ℕ) (b : Bool) → may_act k kept now ≡ b → cond b (Some kept) None ≡ Some node → may_act k node now ≡ true
    at kept true acts e = subst (λ (n : ℕ). may_act k n now ≡ true) (same_Some kept node e) acts
    at kept false acts e = absurd cc

    by : (kept : Option (ℕ × Moment)) → active_by k now kept ≡ Some node → may_act k node now ≡ true
    by None e = absurd cc
    by (Some kept) e = at kept.0 (may_act k kept.0 now) refl e

-- a turn of the active one is answered by orchestrator
as_acting : (s : State) (c : CommandTurn) (node : ℕ) → acts s node ≡ true → act_reply s (act.Command c) ≡ reply_of s (turn.As node (act.Command c))
as_acting s c node acting = sym (ap (λ (b : Bool). done_reply s (cond b (Some (act.Command c)) None)) acting)

pub answered-alike : PlansAreAnsweredAsCommands
answered-alike s c t = by (is_alone s) (active_in s) refl
  where
    by : (alone : Bool) (o : Option ℕ) → active_in s ≡ o → cond alone None (claim_without o) ≡ None
        → cond alone (Some (turn.Act (act.Command c))) (command_as c (taker_by o (is_of 1 s.claims.kept))) ≡ Some t
        → unwrap_or (cond alone None (lasting_by s o)) (act_reply s (act.Command c)) ≡ reply_of s t
    by true o is free own = subst (λ (u : Turn). act_reply s (act.Command c) ≡ reply_of s u) (same_Some (turn.Act (act.Command c)) t own) refl
    by false None is free own = absurd cc
    by false (Some node) is free own =
        subst (λ (u : Turn). act_reply s (act.Command c) ≡ reply_of s u) (same_Some (turn.As node (act.Command c)) t own)
        (as_acting s c node (active_acts s.claims s.moment node is))

pub lasting-told : PlansTellClaimsThatLast
lasting-told s c other until ahead took =
    let other_reply = act_reply s (act.Command c) in
    ap (λ (o : Option Reply). unwrap_or o other_reply) (some_ahead s (turn.Claim 1) ahead) ∙ ap (λ (a : ClaimAnswer). unwrap_or (taken_by a) other_reply) took
