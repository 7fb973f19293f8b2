-- A recovery that looks at its failed server changes none.
use Rattle.std.proofs.Common.{◌≡◌, ◌∙◌, ◌⊎◌, inl, inr, ℕ, Bool, false, List, [], ◌∷◌, ◌++◌, Option, Some, None, refl, sym, ap, cond, subst, slice_get}
use Rattle.unended_laws.proofs.Prelude.{Attempt, BookState, Cause, Docket, Exchange, Fate, Hook, HookState, HostPort, IsAtCheck, IsEarly, IsOfDead, IsTended}
use Rattle.unended_laws.proofs.Prelude.{Job, JobStep, Line, Moment, Observation, Op, Purpose, Recovery, Sight, Stage, Status, Taken, World, acted, after_look}
use Rattle.unended_laws.proofs.Prelude.{attempted, barred_by, by_deed, by_queue, decided, deed_of, due_before, fate, front_turn, ground_of, hooked}
use Rattle.unended_laws.proofs.Prelude.{last_exchanges, met, observed, on_going, once, promoted_in, rear_hook, rear_turn, restarts, saw, seen_in, settled}
use Rattle.unended_laws.proofs.Prelude.{status, taken, undone, with_hooks}
use Rattle.unended_jobs.specs.Operations.Turns.{next}
use Rattle.unended_laws.proofs.Prelude.attempt
use Rattle.unended_laws.proofs.Prelude.cause
use Rattle.unended_laws.proofs.Prelude.op
use Rattle.unended_laws.proofs.Prelude.purpose
use Rattle.unended_laws.proofs.Prelude.stage
use Rattle.unended_laws.proofs.Prelude.step
use Rattle.unended_laws.proofs.Prelude.taking

module _ (w : World) (b : BookState) (read : ℕ) (now : Moment) (r : Recovery) (at : IsAtCheck r) where
  abbrev look : Op
  look = op.Status r.failed None

  abbrev Looks : JobStep → Type 0
  Looks x = (x ≡ step.Going) ⊎ (x ≡ step.Failed (cause.Reachable r.failed) [])

  stays : once (ground_of w b now) r ≡ r
  stays = ap (λ ops. by_queue (ground_of w b now) r ops r.queue) at.ops

  decides : decided (ground_of w b now) r ≡ r
  decides = ap (λ x. once (ground_of w b now) (once (ground_of w b now) (once (ground_of w b now) x))) stays ∙ (ap (λ x. once (ground_of w b now) (once (ground_of w b now) x)) stays ∙ (ap (once (ground_of w b now)) stays ∙ stays))

  none-undone : (u : Purpose) (seen : List Sight) (s : Stage) → IsOfDead u → undone w u seen r.failed s ≡ []
  none-undone (purpose.Takeover d) seen s dead = absurd dead
  none-undone _ seen s dead = refl

  none-last : last_exchanges w r ≡ []
  none-last =
      ap (λ (es : List Exchange). es ++ restarts r.core.hands) (none-undone r.purpose r.core.seen r.stage at.purpose) ∙ ap restarts at.hands

  -- whatever it sees
  look-still : (s : Stage) → s ≡ stage.Check → r.stage ≡ s → (o : Option Status) → (attempted w r look (after_look r.core [] r.failed None (observed w read now r.failed) o)).exchanges ≡ []
  look-still s check is None = ap (λ (x : Stage). (met w r (cause.Unreachable r.failed) (Some (observed w read now r.failed)) (fate w r.purpose x (cause.Unreachable r.failed))).exchanges) (is ∙ check)
  look-still s check is (Some seen) =
      ap (λ (x : Stage). (on_going w r look (Some (observed w read now r.failed)) [] (next (saw r.core r.failed seen) []) (barred_by x r.failed (next (saw r.core r.failed seen) []).seen)).exchanges) (is ∙ check) ∙ none-last

  look-tells : (s : Stage) → s ≡ stage.Check → r.stage ≡ s → (o : Option Status) → Looks (attempted w r look (after_look r.core [] r.failed None (observed w read now r.failed) o)).step
  look-tells s check is None = inl (ap (λ (x : Stage). (met w r (cause.Unreachable r.failed) (Some (observed w read now r.failed)) (fate w r.purpose x (cause.Unreachable r.failed))).step) (is ∙ check))
  look-tells s check is (Some seen) =
      inr (ap (λ (x : Stage). (on_going w r look (Some (observed w read now r.failed)) [] (next (saw r.core r.failed seen) []) (barred_by x r.failed (next (saw r.core r.failed seen) []).seen)).step) (is ∙ check))

  -- it goes on, or the server was reached
  pub check-tells : Looks (taken w b read now r).step
  check-tells =
      subst (λ x. Looks (settled w read now x).step) (sym decides)
      (subst (λ ops. Looks (acted w read now r ops).step) (sym at.ops) (look-tells stage.Check refl at.stage (seen_in (status w r.failed.0))))

  pub check-still : (taken w b read now r).exchanges ≡ []
  check-still =
      ap (λ x. (settled w read now x).exchanges) decides ∙ (ap (λ ops. (acted w read now r ops).exchanges) at.ops ∙ look-still stage.Check refl at.stage (seen_in (status w r.failed.0)))

-- ---- and so is a turn with hooks before it

module _ (d : Docket) (s : HookState) (promoted : Option HostPort) (r : Recovery) (t : Taken) where
  abbrev own : Docket
  own = record d { hooks = Some s }

  rear-still : t.exchanges ≡ [] → (o : Option Hook) → (rear_turn own promoted r t o).taken.exchanges ≡ []
  rear-still none None = none
  rear-still none (Some h) = refl

  unchecked : s.checked ≡ false → due_before s ≡ None
  unchecked never = ap (λ (c : Bool). cond c (slice_get s.hooks.pre_failover s.before) None) never

  pub early-still : IsEarly s → (s.checked ≡ false → t.exchanges ≡ []) → (with_hooks own promoted r t).taken.exchanges ≡ []
  early-still (inl never) none = ap (λ o. (front_turn own promoted r t o).taken.exchanges) (unchecked never) ∙ rear-still (none never) (rear_hook own.hooks t.step)
  early-still (inr due) none = ap (λ o. (front_turn own promoted r t o).taken.exchanges) due.1

pub tended-still : (w : World) (b : BookState) (read : ℕ) (now : Moment) (r : Recovery) (d : Docket) (s : HookState) → d.hooks ≡ Some s → IsTended r s → IsEarly s
    → (hooked w b read now r d).taken.exchanges ≡ []
tended-still w b read now r d s has is early =
    let t = taken w b read now r in
    ap (λ (h : Option HookState). (with_hooks (record d { hooks = h }) (promoted_in b t) r t).taken.exchanges) has
    ∙ early-still d s (promoted_in b t) r t early (λ never. check-still w b read now r (is.first never))

-- ---- a recovery that fails has no lines of its own

module _ (w : World) (c : Cause) (lines : List Line) where
  by-fate : (r : Recovery) (k : Cause) (o : Option Observation) (f : Fate) → (met w r k o f).step ≡ step.Failed c lines → lines ≡ []
  by-fate r k o taking.Fails e = cc
  by-fate r k o _ e = absurd cc

  by-bar : (r : Recovery) (o : Op) (ob : Option Observation) (es : List Exchange) (j : Job) (k : Option Cause) → (on_going w r o ob es j k).step ≡ step.Failed c lines → lines ≡ []
  by-bar r o ob es j None e = absurd cc
  by-bar r o ob es j (Some k) e = cc

  by-attempt : (r : Recovery) (o : Op) (a : Attempt) → (attempted w r o a).step ≡ step.Failed c lines → lines ≡ []
  by-attempt r o (attempt.Goes ob es j) e = by-bar r o ob es j (barred_by r.stage r.failed j.seen) e
  by-attempt r o (attempt.Stops k ob) e = by-fate r k ob (fate w r.purpose r.stage k) e
  by-attempt r o (attempt.Ends ls) e = absurd cc

  by-ops : (read : ℕ) (now : Moment) (r : Recovery) (ops : List Op) → (acted w read now r ops).step ≡ step.Failed c lines → lines ≡ []
  by-ops read now r [] e = cc
  by-ops read now r (o ∷ rest) e = by-attempt r o (by_deed w read now r.core rest (deed_of o)) e

pub fails-silently : (w : World) (b : BookState) (read : ℕ) (now : Moment) (r : Recovery) (c : Cause) (lines : List Line) → (taken w b read now r).step ≡ step.Failed c lines → lines ≡ []
fails-silently w b read now r c lines e = by-ops w c lines read now (decided (ground_of w b now) r) (decided (ground_of w b now) r).core.ops e
