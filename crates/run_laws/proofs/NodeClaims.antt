-- Claims through runs of several orchestrators.
use Rattle.std.proofs.Common.{◌≡◌, ◌≢◌, ◌∙◌, ℕ, ◌<◌, ◌≤◌, Bool, true, false, List, [], ◌∷◌, Option, Some, None, refl, sym, ap, subst, arith, ltb, All, max, not, ◌==◌, if◌then◌else◌}
use Rattle.run_laws.proofs.Prelude.{Act, Acted, ActsWhereActive, All-head, All-tail, ClaimAnswer, Claimed, ClaimsAreReached, ClaimState, ClaimsWait}
use Rattle.run_laws.proofs.Prelude.{ComesBefore, ComesTo, IsNode, IsNumberOf, IsReached, IsScenario, IsTurn, ItsClaimIsKept, LapsedDoesNothing, Later}
use Rattle.run_laws.proofs.Prelude.{Made, Moment, NamesOneOf, OneIsActive, PassingLeavesNewJobs, PassingLeavesNoJob, PassingStartsAgain, Recovery}
use Rattle.run_laws.proofs.Prelude.{Released, Rise, Row, Scenario, State, Turn, Unended, above, act_claimed, act_in, acting_told, acts, after_act}
use Rattle.run_laws.proofs.Prelude.{after_done, after_restart, claim_reply, claimed, claims_after, done_reply, end_or, engine, greatest, holder_by}
use Rattle.run_laws.proofs.Prelude.{interrupted_at, is_eq, kept_of_active, later, latest_recovery, length-replicate, ltb-false, ltb-true}
use Rattle.run_laws.proofs.Prelude.{moment-within, nodes-step, nodes_of, number_of, one_active, passes_to, reloaded_audit, reply_of, run_turns, start}
use Rattle.run_laws.proofs.Prelude.{start_claim, start_moment, start_rows, step, step-lapsed, taken_while_it_lasts, turns_of, with_claims}
use Rattle.run_laws.proofs.Prelude.act
use Rattle.run_laws.proofs.Prelude.answered
use Rattle.run_laws.proofs.Prelude.claim
use Rattle.run_laws.proofs.Prelude.claims
use Rattle.run_laws.proofs.Prelude.turn
use Rattle.run_laws.proofs.JobEntries.{IsPaired, paired-none, paired-run}
use Rattle.run_laws.proofs.Counting.{IsReckoned, moment-stays, reckoned-step}

-- ---- the moment never falls

pub raised : (now : ℕ) (rs : List Recovery) → now ≤ latest_recovery now rs
raised now [] = omega arith
raised now (r ∷ rs) = let more = raised (end_or (max now r.begun.0) r.ended) rs in let here = ended r.ended in omega (arith, more, here)
  where
    ended : (o : Option Moment) → now ≤ end_or (max now r.begun.0) o
    ended None = omega arith
    ended (Some e) = omega arith

pub act-later : (rows : List Row) (s : State) (a : Act) → s.moment ≤ (after_act rows s a).moment
act-later rows s act.Restart = raised s.moment (reloaded_audit rows s).recoveries
act-later rows s _ = omega arith

pub done-later : (rows : List Row) (s : State) (o : Option Act) → s.moment ≤ (after_done rows s o).moment
done-later rows s None = omega arith
done-later rows s (Some a) = act-later rows s a

pub tick-later : (now seconds : ℕ) → now ≤ greatest → now ≤ later now seconds
tick-later now seconds most = omega (arith, most)

pub act-claims : (rows : List Row) (s : State) (a : Act) → (after_act rows s a).claims ≡ s.claims
act-claims rows s (act.PollRead p n) = refl
act-claims rows s _ = refl

-- ---- the claims are reached

numbered : (s : State) (node : ℕ) → IsNumberOf (nodes_of s) node → IsNode s.claims node
numbered s node is = record { first = is.0; last = is.1 }

reached-step : (rows : List Row) (s : State) (t : Turn) → NamesOneOf (nodes_of s) t → s.moment ≤ greatest → IsReached s.claims s.moment → IsReached (step rows s t).claims (step rows s t).moment
reached-step rows s (turn.Step x) names most is = is
reached-step rows s (turn.Tick seconds) names most is = Later s.claims s.moment (later s.moment seconds) (tick-later s.moment seconds most) is
reached-step rows s (turn.Act a) names most is =
    subst (λ (c : ClaimState). IsReached c (after_act rows s a).moment) (sym (act-claims rows s a)) (Later s.claims s.moment (after_act rows s a).moment (act-later rows s a) is)
reached-step rows s (turn.As node a) names most is =
    Later (claims.after_act s.claims node s.moment) s.moment _ (done-later rows s (act_in s (turn.As node a))) (Acted s.claims node s.moment (numbered s node names) is)
reached-step rows s (turn.Claim node) names most is =
    Later (claims.after_claim s.claims node s.moment) s.moment _ (done-later rows s (act_in s (turn.Claim node))) (Claimed s.claims node s.moment (numbered s node names) is)
reached-step rows s (turn.Release node) names most is = Released s.claims node s.moment (numbered s node names) is

-- so many orchestrators, and the claims are reached
record Claiming (count : ℕ) (s : State) : Type 0 where
  nodes : nodes_of s ≡ count
  most : s.moment ≤ greatest
  reached : IsReached s.claims s.moment

claiming-step : (nodes : ℕ) (rows : List Row) (s : State) (t : Turn) → NamesOneOf nodes t → Claiming nodes s → Claiming nodes (step rows s t)
claiming-step nodes rows s t names is = record {
  nodes = nodes-step rows s t ∙ is.nodes;
  most = moment-stays rows s t is.most;
  reached = reached-step rows s t (subst (λ (n : ℕ). NamesOneOf n t) (sym is.nodes) names) is.most is.reached;
}

claiming-run : (nodes : ℕ) (s : State) (xs : List (List Row × Turn)) → All (NamesOneOf nodes) (turns_of xs) → Claiming nodes s → Claiming nodes (run_turns engine s xs)
claiming-run nodes s [] all is = is
claiming-run nodes s (x ∷ xs) all is =
    claiming-run nodes (step x.0 s x.1) xs (All-tail (NamesOneOf nodes) x.1 (turns_of xs) all) (claiming-step nodes x.0 s x.1 (All-head (NamesOneOf nodes) x.1 (turns_of xs) all) is)

claiming-start : (s : Scenario) (wait : ℕ) (rows : List Row) → IsScenario s → Claiming s.nodes (start s wait rows)
claiming-start s wait rows is = record {
  nodes = length-replicate {A = Option Moment} s.nodes None;
  most = moment-within s rows (start_rows s rows) (start_moment s rows).0 is refl refl;
  reached = Made s.nodes (start_claim s rows) (start_moment s rows).0;
}

claiming-comes : (s : Scenario) (xs : List (List Row × Turn)) (now : State) → ComesTo s xs now → Claiming s.nodes now
claiming-comes s xs now comes =
    subst (Claiming s.nodes) (sym comes.state) (claiming-run s.nodes (start s comes.wait comes.rows) xs comes.named (claiming-start s comes.wait comes.rows comes.scenario))

pub every-many : (s : Scenario) (xs : List (List Row × Turn)) (now : State) → ComesTo s xs now → nodes_of now ≡ s.nodes
every-many s xs now comes = (claiming-comes s xs now comes).nodes

pub every-reached : (s : Scenario) (xs : List (List Row × Turn)) (now : State) → ComesTo s xs now → ClaimsAreReached now
every-reached s xs now comes = (claiming-comes s xs now comes).reached

pub every-one : (s : Scenario) (xs : List (List Row × Turn)) (now : State) → ComesTo s xs now → OneIsActive now
every-one s xs now comes a b one two = one_active now.claims now.moment a b (every-reached s xs now comes) one two

pub every-kept : (s : Scenario) (xs : List (List Row × Turn)) (now : State) → ComesTo s xs now → ItsClaimIsKept now
every-kept s xs now comes node is = kept_of_active now.claims now.moment node (every-reached s xs now comes) is

-- ---- turns

-- one that doesn't lapse is the active one's
acting-by : (s : State) (node : ℕ) (a : Act) (b : Bool) → acts s node ≡ b → (done_reply s (if b then Some a else None) ≢ answered.Lapsed) → acts s node ≡ true
acting-by s node a true is differs = is
acting-by s node a false is differs = absurd (differs refl)

pub acting-alone : (s : State) (t : Turn) → ClaimsAreReached s → ActsWhereActive s t
acting-alone s t comes node a is differs =
    let does = acting-by s node a (acts s node) refl (λ e. differs (ap (reply_of s) is ∙ e)) in
    (acting_told s.claims s.moment node comes does).0

pub every-acting : (s : Scenario) (xs : List (List Row × Turn)) (now : State) (t : Turn) → ComesBefore s xs now t → ActsWhereActive now t
every-acting s xs now t comes = acting-alone now t (every-reached s xs now comes.comes)

pub lapsed-idle : (s : State) (t : Turn) → LapsedDoesNothing s t
lapsed-idle s t rows node a is none =
    ap (step rows s) is ∙ sym (step-lapsed s node a none rows) ∙ ap (λ (u : Turn). record s { claims = claims_after s u }) (sym is)

-- ---- claims

pub held-answer : (a : ClaimAnswer) (until : Moment) → claim_reply a ≡ answered.Held until → a ≡ claim.Held until
held-answer (claim.Taken other end) until e = absurd cc
held-answer (claim.Held end) until e = ap claim.Held (same e)
  where
    same : answered.Held end ≡ answered.Held until → end ≡ until
    same e = cc

held-waits : (c : ClaimState) (node now other : ℕ) (until end : Moment) → claims.claim_answer c node now ≡ claim.Held until → c.kept ≡ Some (other, end) → other ≢ node → end.0 ≤ now
held-waits c node now other until end held kept differs = go (ltb now end.0) refl
  where
    never : claim.Taken other end ≡ claim.Held until → ⊥
    never e = cc

    go : (b : Bool) → ltb now end.0 ≡ b → end.0 ≤ now
    go true lasts = absurd (never (sym (taken_while_it_lasts c node now other end kept differs (ltb-true now end.0 lasts)) ∙ held))
    go false ran_out = ltb-false now end.0 ran_out

pub waits : (s : State) (t : Turn) → ClaimsWait s t
waits s t node other until end is e kept differs =
    held-waits s.claims node s.moment other until end (held-answer (claimed s node) until (ap (reply_of s) (sym is) ∙ e)) kept differs

pub passes-on : (last node : ℕ) → last ≢ node → not (last == node) ≡ true
passes-on last node differs = go (last == node) refl
  where
    go : (b : Bool) → (last == node) ≡ b → not b ≡ true
    go true same = absurd (differs (is_eq last node same))
    go false same = refl

pub passing-restarts : (s : State) (t : Turn) → PassingStartsAgain s t
passing-restarts s t rows node last until is e holder differs =
    let held : claimed s node ≡ claim.Held until = held-answer (claimed s node) until (ap (reply_of s) (sym is) ∙ e) in
    let passes : passes_to s.last_holder node ≡ true = ap (λ (o : Option ℕ). passes_to o node) holder ∙ passes-on last node differs in
    let restarts : act_in s (turn.Claim node) ≡ Some act.Restart = ap (act_claimed s.last_holder node) held ∙ ap (λ (b : Bool). if b then Some act.Restart else None) passes in
    ap (step rows s) is
    ∙ ap (λ (o : Option Act). with_claims s (turn.Claim node) (after_done rows s o)) restarts
    ∙ ap (λ (h : Option ℕ). record (after_restart rows s) { claims = claims_after s (turn.Claim node); last_holder = h }) (ap (holder_by s.last_holder node) held)
    ∙ ap (λ (u : Turn). record (after_restart rows s) { claims = claims_after s u; last_holder = Some node }) (sym is)

pub passing-drops : (s : State) (t : Turn) → PassingLeavesNoJob s t
passing-drops s t rows node last until is e holder differs = ap (λ (x : State). x.jobs) (passing-restarts s t rows node last until is e holder differs)

-- ---- jobs that were begun later

all-above : (low : ℕ) (jobs : List Unended) (high : ℕ) → Rise low jobs high → All (λ j. low < number_of j) jobs
all-above low jobs high rise = λ k d less. above low jobs high k d rise less

pub begun-since : (count : ℕ) (s : State) (t : Turn) → IsReckoned count s → PassingLeavesNewJobs count s t
begun-since count s t reckoned rows node last until xs is e holder differs all =
    let started : IsPaired s.last_job (step rows s t) =
    subst (IsPaired s.last_job) (sym (passing-restarts s t rows node last until is e holder differs)) (paired-none s.last_job (reloaded_audit rows s) (interrupted_at rows s) s.last_job (omega arith)) in
    let fits : IsTurn count t = subst (IsTurn count) (sym is) tt in
    let now = run_turns engine (step rows s t) xs in
    all-above s.last_job now.jobs now.last_job (paired-run s.last_job count (step rows s t) xs all (reckoned-step count rows s t reckoned fits) started).rising
