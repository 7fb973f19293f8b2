-- Turns of recoveries with hooks, by those without.
use Rattle.std.proofs.Common.{◌≡◌, ◌+◌, ◌-◌, ◌<◌, Bool, true, false, refl, sym, ◌∙◌, Option, Some, None, arith, slice_get, if◌then◌else◌}
use Rattle.unended_jobs.proofs.Prelude.{Docket, Hook, Hooked, HookState, HostPort, JobStep, Recovery, Taken, checked, due_after, due_before}
use Rattle.unended_jobs.proofs.Prelude.{front_hook, front_turn, hooks_left, is_going, left_of, option_map, quiet, ran_after, ran_before, rear_hook}
use Rattle.unended_jobs.proofs.Prelude.{rear_turn, slice_get_within, step_before, step_with, turns_to_end, with_hooks}
use Rattle.unended_jobs.proofs.Prelude.step

-- whether it goes on stays
pub step_with-going : (o : Option HookState) (promoted : Option HostPort) (s : JobStep) → is_going (step_with o promoted s) ≡ is_going s
step_with-going (Some h) promoted step.Going = refl
step_with-going _ promoted _ = refl

-- what holds for a recovery's own turn, whatever its lines are, and for one in which nothing is done, holds with hooks
module _ (P : Taken → Type 0) (d : Docket) (promoted : Option HostPort) (r : Recovery) (t : Taken) where
  pub hooked-has : ((s : JobStep) → is_going s ≡ is_going t.step → P (record t { step = s })) → ((s : JobStep) → P (quiet r s)) → P (with_hooks d promoted r t).taken
  hooked-has own still = front (front_hook d.hooks)
    where
      rear : (o : Option Hook) → P (rear_turn d promoted r t o).taken
      rear None = own (step_with d.hooks promoted t.step) (step_with-going d.hooks promoted t.step)
      rear (Some h) = still step.Going

      front : (o : Option Hook) → P (front_turn d promoted r t o).taken
      front None = rear (rear_hook d.hooks t.step)
      front (Some h) = still (step_before d.hooks h)

-- ---- hooks that are left

got : (b : Bool) (o : Option Hook) (h : Hook) → (if b then o else None) ≡ Some h → o ≡ Some h
got true o h e = e
got false o h e = absurd cc

less-before : (s : HookState) (h : Hook) → due_before s ≡ Some h → hooks_left (ran_before s) < hooks_left s
less-before s h e =
    let within = slice_get_within s.hooks.pre_failover s.before h (got s.checked (slice_get s.hooks.pre_failover s.before) h e) in
    omega (arith, within)

less-after : (s : HookState) (h : Hook) → due_after s ≡ Some h → hooks_left (ran_after s) < hooks_left s
less-after s h e =
    let within = slice_get_within s.hooks.post_failover s.after h (got s.checked (slice_get s.hooks.post_failover s.after) h e) in
    omega (arith, within)

front-less : (o : Option HookState) (h : Hook) → front_hook o ≡ Some h → left_of (option_map ran_before o) < left_of o
front-less None h e = absurd cc
front-less (Some s) h e = less-before s h e

rear-less : (o : Option HookState) (own : JobStep) (h : Hook) → rear_hook o own ≡ Some h → left_of (option_map ran_after o) < left_of o
rear-less (Some s) (step.Done lines) h e = less-after s h e
rear-less _ _ h e = absurd cc

checked-left : (o : Option HookState) → left_of (option_map checked o) ≡ left_of o
checked-left None = refl
checked-left (Some s) = refl

-- a turn leaves fewer: of the recovery's own, or of its hooks
module _ (d : Docket) (promoted : Option HostPort) (r : Recovery) (t : Taken) (ends : is_going t.step ≡ true → turns_to_end t.recovery < turns_to_end r) where
  abbrev Fewer : Hooked → Type 0
  Fewer h = is_going h.taken.step ≡ true → turns_to_end h.taken.recovery + left_of h.docket.hooks < turns_to_end r + left_of d.hooks

  pub hooked-fewer : Fewer (with_hooks d promoted r t)
  hooked-fewer = front (front_hook d.hooks) refl
    where
      rear : (o : Option Hook) → rear_hook d.hooks t.step ≡ o → Fewer (rear_turn d promoted r t o)
      rear None e = λ g.
          let less = ends (sym (step_with-going d.hooks promoted t.step) ∙ g) in
          let same = checked-left d.hooks in
          omega (arith, less, same)
      rear (Some h) e = λ g. let less = rear-less d.hooks t.step h e in omega (arith, less)

      front : (o : Option Hook) → front_hook d.hooks ≡ o → Fewer (front_turn d promoted r t o)
      front None e = rear (rear_hook d.hooks t.step) refl
      front (Some h) e = λ g. let less = front-less d.hooks h e in omega (arith, less)
