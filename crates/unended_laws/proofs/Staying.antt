-- Hooks stay in order along the turns of their recovery.
use Rattle.std.proofs.Common.{◌≡◌, ◌∙◌, ◌+◌, ◌≤◌, inl, inr, ℕ, zero, suc, Bool, true, false, List, [], ◌∷◌, length, Option, Some, None, refl, sym, ap, cond, subst, arith, ◌==◌, All, slice_get, take}
use Rattle.unended_laws.proofs.Prelude.{All-nil, All-push, BookState, Docket, Hook, Hooked, Hooks, HookState, HostPort, IsAtCheck, IsEarly, IsOfDead}
use Rattle.unended_laws.proofs.Prelude.{IsOfDocket, IsTended, JobStep, Means, Moment, Purpose, Recovery, ServerNo, Taken, Values, World, begun_hooks}
use Rattle.unended_laws.proofs.Prelude.{begun_recovery, checked, due_after, due_at, due_before, eqb-true, failed_lines, false≢true, front_hook}
use Rattle.unended_laws.proofs.Prelude.{front_turn, got, hooked, is_going, option_map, plan_of, promoted_in, ran_after, ran_before, rear_hook}
use Rattle.unended_laws.proofs.Prelude.{rear_turn, same_Some, take-more, taken, with_hooks}
use Rattle.unended_jobs.specs.RecoveryHooks.Runs.{Passes}
use Rattle.unended_laws.proofs.Prelude.cause
use Rattle.unended_laws.proofs.Prelude.purpose
use Rattle.unended_laws.proofs.Prelude.step

-- ---- as it begins

none-taken : (hs : List Hook) → take 0 hs ≡ []
none-taken [] = refl
none-taken (x ∷ xs) = refl

at-check : (u : Purpose) (by : Means) (id wait : ℕ) (f : ServerNo) (replicas order : List ServerNo) → IsOfDead u → IsAtCheck (begun_recovery u by id wait f replicas order)
at-check purpose.Regroup by id wait f replicas order dead = absurd dead
at-check purpose.Master by id wait f replicas order dead = record { purpose = tt; stage = refl; ops = refl; hands = refl }
at-check (purpose.Intermediate s) by id wait f replicas order dead = record { purpose = tt; stage = refl; ops = refl; hands = refl }
at-check (purpose.Takeover d) by id wait f replicas order dead = absurd dead

pub begun-tended : (u : Purpose) (by : Means) (id wait : ℕ) (f : ServerNo) (replicas order : List ServerNo) (hooks : Hooks) (told : Values) → IsOfDead u
    → IsTended (begun_recovery u by id wait f replicas order) (begun_hooks hooks told)
begun-tended u by id wait f replicas order hooks told dead = record {
  order = record {
    first = λ e. (refl, refl);
    passed = subst (All Passes) (sym (none-taken hooks.pre_failover)) (All-nil Passes);
    last = λ h. absurd (omega (arith, h));
  };
  first = λ e. at-check u by id wait f replicas order dead;
}

-- ---- which hook was due

when : (b : Bool) (o : Option Hook) (h : Hook) → cond b o None ≡ Some h → b ≡ true
when true o h e = refl
when false o h e = absurd cc

past : (hs : List Hook) (n : ℕ) → slice_get hs n ≡ None → length hs ≤ n
past [] n e = omega arith
past (x ∷ xs) zero e = absurd cc
past (x ∷ xs) (suc n) e = let rest = past xs n e in omega (arith, rest)

module _ (s : HookState) where
  due-checked : (h : Hook) → due_before s ≡ Some h → s.checked ≡ true
  due-checked h e = when s.checked (slice_get s.hooks.pre_failover s.before) h e

  behind-checked : (h : Hook) → due_after s ≡ Some h → s.checked ≡ true
  behind-checked h e = when s.checked (slice_get s.hooks.post_failover s.after) h e

  -- after it none is left before it
  none-left : s.checked ≡ true → due_before s ≡ None → length s.hooks.pre_failover ≤ s.before
  none-left checked none = past s.hooks.pre_failover s.before (sym (ap (λ (b : Bool). cond b (slice_get s.hooks.pre_failover s.before) None) checked) ∙ none)

never : (b : Bool) → b ≡ true → b ≡ false → ⊥
never b is fresh = false≢true (sym fresh ∙ is)

-- ---- a turn

module _ (d : Docket) (s : HookState) (promoted : Option HostPort) (r : Recovery) (t : Taken) where
  abbrev own : Docket
  own = record d { hooks = Some s }

  at-due : (x : JobStep) (h : Hook) → due_at s x ≡ Some h → due_after s ≡ Some h
  at-due step.Going h e = absurd cc
  at-due (step.Done lines) h e = e
  at-due (step.Failed c lines) h e = absurd cc

  module _ (is : IsTended r s) where
    abbrev Stays : Hooked → Type 0
    Stays h = is_going h.taken.step ≡ true → (k : HookState) → h.docket.hooks ≡ Some k → IsTended h.taken.recovery k

    own-tended : IsTended t.recovery (checked s)
    own-tended = record {
      order = record { first = λ fresh. absurd (never true refl fresh); passed = is.order.passed; last = is.order.last };
      first = λ fresh. absurd (never true refl fresh);
    }

    after-tended : due_before s ≡ None → (h : Hook) → due_after s ≡ Some h → IsTended r (ran_after s)
    after-tended before h e =
        let looked = behind-checked s h e in
        record {
          order = record { first = λ fresh. absurd (never s.checked looked fresh); passed = is.order.passed; last = λ one. none-left s looked before };
          first = λ fresh. absurd (never s.checked looked fresh);
        }

    before-tended : (h : Hook) → due_before s ≡ Some h → Passes h → IsTended r (ran_before s)
    before-tended h e passes =
        let looked = due-checked s h e in
        let more = take-more s.hooks.pre_failover s.before h (got s.checked (slice_get s.hooks.pre_failover s.before) h e) in
        let last = is.order.last in
        record {
          order = record {
            first = λ fresh. absurd (never s.checked looked fresh);
            passed = subst (All Passes) (sym more) (All-push Passes (take s.before s.hooks.pre_failover) h is.order.passed passes);
            last = λ one. let all = last one in omega (arith, all);
          };
          first = λ fresh. absurd (never s.checked looked fresh);
        }

    rear-stays : due_before s ≡ None → (o : Option Hook) → due_at s t.step ≡ o → Stays (rear_turn own promoted r t o)
    rear-stays before None e = λ going k same. subst (IsTended t.recovery) (same_Some (checked s) k same) own-tended
    rear-stays before (Some h) e = λ going k same. subst (IsTended r) (same_Some (ran_after s) k same) (after-tended before h (at-due t.step h e))

    front-stays : (o : Option Hook) → due_before s ≡ o → Stays (front_turn own promoted r t o)
    front-stays None e = rear-stays e (due_at s t.step) refl
    front-stays (Some h) e = λ going k same. subst (IsTended r) (same_Some (ran_before s) k same) (before-tended h e (passes (h.exit == 0) refl going))
      where
        passes : (b : Bool) → (h.exit == 0) ≡ b → is_going (cond b step.Going (step.Failed (cause.HookFailed (s.before + 1) h.exit) (failed_lines (ran_before s)))) ≡ true → h.exit ≡ 0
        passes true is going = eqb-true h.exit 0 is
        passes false is going = absurd (false≢true going)

    pub hooked-stays : Stays (with_hooks own promoted r t)
    hooked-stays = front-stays (due_before s) refl

  -- ---- one that is early was

  abbrev WasEarly : Hooked → Type 0
  WasEarly h = (k : HookState) → h.docket.hooks ≡ Some k → IsEarly k → IsEarly s

  looked-due : (k : HookState) → k.checked ≡ true → IsEarly k → (h : Hook) × (due_before k ≡ Some h)
  looked-due k looked (inl fresh) = absurd (never k.checked looked fresh)
  looked-due k looked (inr due) = due

  rear-was : due_before s ≡ None → (o : Option Hook) → due_at s t.step ≡ o → WasEarly (rear_turn own promoted r t o)
  rear-was before None e = λ k same early. by s.checked refl (looked-due (checked s) refl (subst IsEarly (sym (same_Some (checked s) k same)) early))
    where
      by : (b : Bool) → s.checked ≡ b → (h : Hook) × (due_before (checked s) ≡ Some h) → IsEarly s
      by false fresh due = inl fresh
      by true is due = inr (due.0, ap (λ (c : Bool). cond c (slice_get s.hooks.pre_failover s.before) None) is ∙ due.1)
  rear-was before (Some h) e = λ k same early.
      let looked = behind-checked s h (at-due t.step h e) in
      inr (looked-due (ran_after s) looked (subst IsEarly (sym (same_Some (ran_after s) k same)) early))

  front-was : (o : Option Hook) → due_before s ≡ o → WasEarly (front_turn own promoted r t o)
  front-was None e = rear-was e (due_at s t.step) refl
  front-was (Some h) e = λ k same early. inr (h, e)

  pub hooked-was : WasEarly (with_hooks own promoted r t)
  hooked-was = front-was (due_before s) refl

-- ---- with a `Docket`

pub tended-turn : (w : World) (b : BookState) (read : ℕ) (now : Moment) (r : Recovery) (d : Docket) (s k : HookState) → d.hooks ≡ Some s → IsTended r s
    → is_going (hooked w b read now r d).taken.step ≡ true → (hooked w b read now r d).docket.hooks ≡ Some k → IsTended (hooked w b read now r d).taken.recovery k
tended-turn w b read now r d s k has is =
    let t = taken w b read now r in
    subst (λ (o : Option HookState). is_going (with_hooks (record d { hooks = o }) (promoted_in b t) r t).taken.step ≡ true
    → (with_hooks (record d { hooks = o }) (promoted_in b t) r t).docket.hooks ≡ Some k → IsTended (with_hooks (record d { hooks = o }) (promoted_in b t) r t).taken.recovery k)
    (sym has) (λ going. hooked-stays d s (promoted_in b t) r t is going k)

pub early-turn : (w : World) (b : BookState) (read : ℕ) (now : Moment) (r : Recovery) (d : Docket) (s k : HookState) → d.hooks ≡ Some s
    → (hooked w b read now r d).docket.hooks ≡ Some k → IsEarly k → IsEarly s
early-turn w b read now r d s k has =
    let t = taken w b read now r in
    subst (λ (o : Option HookState). (with_hooks (record d { hooks = o }) (promoted_in b t) r t).docket.hooks ≡ Some k → IsEarly k → IsEarly s)
    (sym has) (hooked-was d s (promoted_in b t) r t k)

-- ---- the states of recoveries' hooks

same-checked : (o : Option HookState) → plan_of (option_map checked o) ≡ plan_of o
same-checked None = refl
same-checked (Some s) = refl

same-before : (o : Option HookState) → plan_of (option_map ran_before o) ≡ plan_of o
same-before None = refl
same-before (Some s) = refl

same-after : (o : Option HookState) → plan_of (option_map ran_after o) ≡ plan_of o
same-after None = refl
same-after (Some s) = refl

pub of-docket : (d : Docket) (promoted : Option HostPort) (r : Recovery) (t : Taken) → IsOfDocket d (with_hooks d promoted r t).docket
of-docket d promoted r t = front (front_hook d.hooks)
  where
    rear : (o : Option Hook) → IsOfDocket d (rear_turn d promoted r t o).docket
    rear None = record { entry = refl; hooks = same-checked d.hooks }
    rear (Some h) = record { entry = refl; hooks = same-after d.hooks }

    front : (o : Option Hook) → IsOfDocket d (front_turn d promoted r t o).docket
    front None = rear (rear_hook d.hooks t.step)
    front (Some h) = record { entry = refl; hooks = same-before d.hooks }
