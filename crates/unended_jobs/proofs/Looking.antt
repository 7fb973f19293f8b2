-- What was looked up of a job, by its kind, and what a turn that was looked up answers.
use Rattle.std.proofs.Common.{◌≡◌, ◌∙◌, ℕ, ◌<◌, zero, suc, Bool, true, false, List, [], ◌∷◌, length, ap, refl, sym, Option, Some, None, arith, is_some, slice_get, if◌then◌else◌}
use Rattle.unended_jobs.proofs.Prelude.{CanRun, Docket, Hook, HookState, HostPort, JobStep, Line, Recovery, RecoveryLook, Taken, Then, Unended}
use Rattle.unended_jobs.proofs.Prelude.{UnendedLook, after_step, decided_on, done-purpose, foretold, front_hook, front_turn, hooked_by}
use Rattle.unended_jobs.proofs.Prelude.{observation_of, option_map, own_turn, quiet, ran_after, rear_hook, rear_turn, step_before, step_of, step_with}
use Rattle.unended_jobs.proofs.Prelude.{told_with, with_hooks, with_hooks_of}
use Rattle.unended_jobs.proofs.Prelude.Looks.{foretold as recovery_foretold}
use Rattle.unended_jobs.proofs.Prelude.look
use Rattle.unended_jobs.proofs.Prelude.place
use Rattle.unended_jobs.proofs.Prelude.step
use Rattle.unended_jobs.proofs.Prelude.unended

-- it answers what was looked up

pub foretold-step : (u : Unended) (x : UnendedLook) → (foretold u x).step ≡ step_of x
foretold-step (unended.Plan j) (look.Plan l) = refl
foretold-step (unended.Recovery r docket) (look.Plan l) = refl
foretold-step _ _ = refl

pub foretold-observation : (u : Unended) (x : UnendedLook) → (foretold u x).observation ≡ observation_of x
foretold-observation (unended.Plan j) (look.Plan l) = refl
foretold-observation (unended.Recovery r docket) (look.Plan l) = refl
foretold-observation _ _ = refl

-- ---- the recovery after it

-- as the turn that was looked up leaves it
abbrev pub recovery_after : Recovery → UnendedLook → Recovery
recovery_after r (look.Plan l) = r
recovery_after r (look.Recovery l) = (recovery_foretold r l).recovery
recovery_after r (look.Hook s at) = r

pub next-recovery : (r : Recovery) (d : Docket) (x : UnendedLook) → (foretold (unended.Recovery r d) x).next ≡ unended.Recovery (recovery_after r x) (hooked_by r d x).docket
next-recovery r d (look.Plan l) = refl
next-recovery r d (look.Recovery l) = refl
next-recovery r d (look.Hook s at) = refl

-- a turn that is the last one leaves a recovery its purpose
pub last-purpose : (r : Recovery) (x : UnendedLook) (lines : List Line) → step_of x ≡ step.Done lines → (recovery_after r x).purpose ≡ r.purpose
last-purpose r (look.Plan l) lines is = refl
last-purpose r (look.Recovery l) lines is = done-purpose r l lines is
last-purpose r (look.Hook s at) lines is = refl

-- ---- the recovery's own turn

-- whether it goes on, is done or fails stays
after-same : (o : Option HookState) (promoted : Option HostPort) (r : Recovery) (s : JobStep) (what : Option Then) → after_step r (step_with o promoted s) what ≡ after_step r s what
after-same (Some h) promoted r step.Going what = refl
after-same _ promoted r _ what = refl

-- only if it is done the promoted server counts
step-same : (o : Option HookState) (p q : Option HostPort) (s : JobStep) → ((lines : List Line) → s ≡ step.Done lines → q ≡ p) → step_with o q s ≡ step_with o p s
step-same (Some h) p q (step.Done lines) same = ap (λ (x : Option HostPort). told_with h x (step.Done lines)) (same lines refl)
step-same _ p q _ same = refl

pub own-foretold : (d : Docket) (p q : Option HostPort) (r : Recovery) (l m : RecoveryLook) → m ≡ record l { step = step_with d.hooks q l.step }
    → ((lines : List Line) → l.step ≡ step.Done lines → q ≡ p) → recovery_foretold r m ≡ (own_turn d p (recovery_foretold r l)).taken
own-foretold d p q r l m is same =
    ap (recovery_foretold r) is
    ∙ ap (λ (s : JobStep). record (recovery_foretold r l) { step = s; recovery = after_step (decided_on r l.decided) (step_with d.hooks q l.step) l.then }) (step-same d.hooks p q l.step same)
    ∙ ap (λ (y : Recovery). record (recovery_foretold r l) { step = step_with d.hooks p l.step; recovery = y }) (after-same d.hooks q (decided_on r l.decided) l.step l.then)

-- ---- a hook after it

none-before : (d : Docket) (o : Option JobStep) → o ≡ option_map (step_before d.hooks) (front_hook d.hooks) → ((s : JobStep) → o ≡ Some s → ⊥) → front_hook d.hooks ≡ None
none-before d o is none = go (front_hook d.hooks) refl
  where
    go : (f : Option Hook) → front_hook d.hooks ≡ f → f ≡ None
    go None e = refl
    go (Some h) e = absurd (none (step_before d.hooks h) (is ∙ ap (option_map (step_before d.hooks)) e))

pub behind-turn : (d : Docket) (p : Option HostPort) (r : Recovery) (t : Taken) (o : Option JobStep) → o ≡ option_map (step_before d.hooks) (front_hook d.hooks) → ((s : JobStep) → o ≡ Some s → ⊥)
    → (own : JobStep) → own ≡ t.step → is_some (rear_hook d.hooks own) ≡ true → record { taken = quiet r step.Going; docket = with_hooks_of d ran_after } ≡ with_hooks d p r t
behind-turn d p r t o is none own same due =
    go (rear_hook d.hooks own) refl due ∙ ap (λ (s : JobStep). rear_turn d p r t (rear_hook d.hooks s)) same ∙ sym (ap (front_turn d p r t) (none-before d o is none))
  where
    go : (f : Option Hook) → rear_hook d.hooks own ≡ f → is_some f ≡ true → record { taken = quiet r step.Going; docket = with_hooks_of d ran_after } ≡ rear_turn d p r t (rear_hook d.hooks own)
    go None e due = absurd cc
    go (Some h) e due = sym (ap (rear_turn d p r t) e)

within : (xs : List Hook) (n : ℕ) → is_some (slice_get xs n) ≡ true → n < length xs
within [] n some = absurd cc
within (x ∷ xs) zero some = omega arith
within (x ∷ xs) (suc n) some = let rest = within xs n some in omega (arith, rest)

due-within : (s : HookState) (b : Bool) → is_some (if b then slice_get s.hooks.post_failover s.after else None) ≡ true → s.after < length s.hooks.post_failover
due-within s true some = within s.hooks.post_failover s.after some
due-within s false some = absurd cc

pub behind-can : (o : Option HookState) (own : JobStep) → is_some (rear_hook o own) ≡ true → CanRun o place.Behind
behind-can None own due = tt
behind-can (Some s) step.Going due = absurd cc
behind-can (Some s) (step.Done lines) due = due-within s s.checked due
behind-can (Some s) (step.Failed c lines) due = absurd cc
