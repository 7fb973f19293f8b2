-- The lines of hooks in the turn in which a recovery ends.
use Rattle.std.proofs.Common.{◌≡◌, ◌∙◌, ◌+◌, ℕ, Bool, true, false, List, [], ◌++◌, ◌⊎◌, inl, inr, Option, Some, None, refl, sym, ap, cond, subst, ◌==◌, slice_get, take}
use Rattle.unended_laws.proofs.Prelude.{AreInOrder, BookState, Cause, Docket, Hook, HookState, HostPort, IsTended, JobStep, Line, Moment, Recovery, Taken}
use Rattle.unended_laws.proofs.Prelude.{World, after_lines, all-before, all-behind, all-stopped, all_before, all_behind, before_lines, done_lines, due_at}
use Rattle.unended_laws.proofs.Prelude.{due_before, eq-eqb, failed_lines, false≢true, front_turn, hooked, lines_of, promoted_in, ran_before, rear_turn, taken}
use Rattle.unended_laws.proofs.Prelude.{told_with, unsuccessful_lines, with_hooks}
use Rattle.unended_laws.proofs.Prelude.cause
use Rattle.unended_laws.proofs.Prelude.phase
use Rattle.unended_laws.proofs.Prelude.step
use Rattle.unended_laws.proofs.Checking.{check-tells, fails-silently}

module _ (d : Docket) (s : HookState) (promoted : Option HostPort) (r : Recovery) (t : Taken) (order : AreInOrder s) where
  abbrev own : Docket
  own = record d { hooks = Some s }

  -- ---- done

  abbrev Done : List Line → Type 0
  Done lines = (mine : List Line) × (t.step ≡ step.Done mine) × (lines ≡ mine ++ (all_before s ++ all_behind s promoted))

  done-own : s.checked ≡ true → due_before s ≡ None → (lines : List Line) (x : JobStep) → t.step ≡ x → due_at s x ≡ None → told_with s promoted x ≡ step.Done lines → Done lines
  done-own checked before lines step.Going is behind e = absurd cc
  done-own checked before lines (step.Failed c ls) is behind e = absurd cc
  done-own checked before lines (step.Done mine) is behind e =
      let same : lines ≡ mine ++ done_lines s promoted = cc in
      (mine, is, same ∙ ap (λ ls. mine ++ (ls ++ after_lines s promoted)) (all-before s order checked before) ∙ ap (λ ls. mine ++ (all_before s ++ ls)) (all-behind s promoted checked behind))

  done-rear : s.checked ≡ true → due_before s ≡ None → (lines : List Line) (o : Option Hook) → due_at s t.step ≡ o → (rear_turn own promoted r t o).taken.step ≡ step.Done lines → Done lines
  done-rear checked before lines None behind e = done-own checked before lines t.step refl behind e
  done-rear checked before lines (Some h) behind e = absurd cc

  done-front : s.checked ≡ true → (lines : List Line) (o : Option Hook) → due_before s ≡ o → (front_turn own promoted r t o).taken.step ≡ step.Done lines → Done lines
  done-front checked lines None before e = done-rear checked before lines (due_at s t.step) refl e
  done-front checked lines (Some h) before e = absurd (by (h.exit == 0) e)
    where
      by : (b : Bool) → cond b step.Going (step.Failed (cause.HookFailed (s.before + 1) h.exit) (failed_lines (ran_before s))) ≡ step.Done lines → ⊥
      by true e = cc
      by false e = cc

  pub done-tells : s.checked ≡ true → (lines : List Line) → (with_hooks own promoted r t).taken.step ≡ step.Done lines → Done lines
  done-tells checked lines e = done-front checked lines (due_before s) refl e

  -- ---- failed

  failed-own : (lines : List Line) (c : Cause) (x : JobStep) → told_with s promoted x ≡ step.Failed c lines → lines ≡ before_lines s ++ unsuccessful_lines s
  failed-own lines c step.Going e = absurd cc
  failed-own lines c (step.Done mine) e = absurd cc
  failed-own lines c (step.Failed k ls) e = cc

  failed-rear : (lines : List Line) (c : Cause) (o : Option Hook) → (rear_turn own promoted r t o).taken.step ≡ step.Failed c lines → lines ≡ before_lines s ++ unsuccessful_lines s
  failed-rear lines c None e = failed-own lines c t.step e
  failed-rear lines c (Some h) e = absurd cc

  failed-front : s.checked ≡ true → (lines : List Line) (c : Cause) (o : Option Hook) → due_before s ≡ o → (front_turn own promoted r t o).taken.step ≡ step.Failed c lines → lines ≡ all_before s ++ unsuccessful_lines s
  failed-front checked lines c None before e =
      failed-rear lines c (due_at s t.step) e ∙ ap (λ ls. ls ++ unsuccessful_lines s) (all-before s order checked before)
  failed-front checked lines c (Some h) before e = by (h.exit == 0) refl e
    where
      by : (b : Bool) → (h.exit == 0) ≡ b → cond b step.Going (step.Failed (cause.HookFailed (s.before + 1) h.exit) (failed_lines (ran_before s))) ≡ step.Failed c lines → lines ≡ all_before s ++ unsuccessful_lines s
      by true passes e = absurd cc
      by false other e =
          let same : lines ≡ failed_lines (ran_before s) = cc in
          same ∙ ap (λ ls. ls ++ unsuccessful_lines s) (all-stopped s h order before (λ z. false≢true (sym other ∙ eq-eqb h.exit 0 z)))

  pub failed-tells : s.checked ≡ true → (lines : List Line) (c : Cause) → (with_hooks own promoted r t).taken.step ≡ step.Failed c lines → lines ≡ all_before s ++ unsuccessful_lines s
  failed-tells checked lines c e = failed-front checked lines c (due_before s) refl e

  -- ---- its failed server was reached

  unchecked : s.checked ≡ false → due_before s ≡ None
  unchecked never = ap (λ (c : Bool). cond c (slice_get s.hooks.pre_failover s.before) None) never

  pub reached-tells : s.checked ≡ false → (lines : List Line) (c : Cause) → (with_hooks own promoted r t).taken.step ≡ step.Failed c lines → lines ≡ unsuccessful_lines s
  reached-tells never lines c e =
      let front = subst (λ (o : Option Hook). (front_turn own promoted r t o).taken.step ≡ step.Failed c lines) (unchecked never) e in
      failed-rear lines c (due_at s t.step) front
      ∙ ap (λ (n : ℕ). lines_of phase.PreFailover s.told (take n s.hooks.pre_failover) ++ unsuccessful_lines s) (order.first never).0

  abbrev Looks : JobStep → Type 0
  Looks x = (x ≡ step.Going) ⊎ (x ≡ step.Failed (cause.Reachable r.failed) [])

  -- no hook before it is due, and none after it
  unlooked : (y : JobStep) → s.checked ≡ false → (with_hooks own promoted r t).taken.step ≡ y → (x : JobStep) → t.step ≡ x → (rear_turn own promoted r (record t { step = x }) (due_at s x)).taken.step ≡ y
  unlooked y never e x is =
      subst (λ (z : JobStep). (rear_turn own promoted r (record t { step = z }) (due_at s z)).taken.step ≡ y) is
      (subst (λ (o : Option Hook). (front_turn own promoted r t o).taken.step ≡ y) (unchecked never) e)

  pub looked-first : Looks t.step → (lines : List Line) → s.checked ≡ false → (with_hooks own promoted r t).taken.step ≡ step.Done lines → ⊥
  looked-first (inl going) lines never e = let same = unlooked (step.Done lines) never e step.Going going in cc
  looked-first (inr failed) lines never e = let same = unlooked (step.Done lines) never e (step.Failed (cause.Reachable r.failed) []) failed in cc

  pub reached-so : Looks t.step → (lines : List Line) (c : Cause) → s.checked ≡ false → (with_hooks own promoted r t).taken.step ≡ step.Failed c lines → c ≡ cause.Reachable r.failed
  reached-so (inl going) lines c never e = let same = unlooked (step.Failed c lines) never e step.Going going in absurd cc
  reached-so (inr failed) lines c never e = let same = unlooked (step.Failed c lines) never e (step.Failed (cause.Reachable r.failed) []) failed in cc

  pub done-tells-all : (s.checked ≡ false → Looks t.step) → (lines : List Line) → (with_hooks own promoted r t).taken.step ≡ step.Done lines → Done lines
  done-tells-all looks lines e = go s.checked refl
    where
      go : (b : Bool) → s.checked ≡ b → Done lines
      go true is = done-tells is lines e
      go false is = absurd (looked-first (looks is) lines is e)

-- ---- with a `Docket`

module _ (w : World) (b : BookState) (read : ℕ) (now : Moment) (r : Recovery) (d : Docket) (s : HookState) (has : d.hooks ≡ Some s) (is : IsTended r s) where
  abbrev turn : Taken
  turn = taken w b read now r

  abbrev told : Option HookState → JobStep
  told o = (with_hooks (record d { hooks = o }) (promoted_in b turn) r turn).taken.step

  pub done-docket : (lines : List Line) → (hooked w b read now r d).taken.step ≡ step.Done lines
      → (own : List Line) × (turn.step ≡ step.Done own) × (lines ≡ own ++ (all_before s ++ all_behind s (promoted_in b turn)))
  done-docket lines e =
      done-tells-all d s (promoted_in b turn) r turn is.order (λ never. check-tells w b read now r (is.first never)) lines (subst (λ (o : Option HookState). told o ≡ step.Done lines) has e)

  pub failed-docket : s.checked ≡ true → (c : Cause) (lines : List Line) → (hooked w b read now r d).taken.step ≡ step.Failed c lines → lines ≡ all_before s ++ unsuccessful_lines s
  failed-docket looked c lines e = failed-tells d s (promoted_in b turn) r turn is.order looked lines c (subst (λ (o : Option HookState). told o ≡ step.Failed c lines) has e)

  pub reached-docket : s.checked ≡ false → (c : Cause) (lines : List Line) → (hooked w b read now r d).taken.step ≡ step.Failed c lines
      → (c ≡ cause.Reachable r.failed) × (lines ≡ unsuccessful_lines s)
  reached-docket fresh c lines e =
      let same = subst (λ (o : Option HookState). told o ≡ step.Failed c lines) has e in
      (reached-so d s (promoted_in b turn) r turn is.order (check-tells w b read now r (is.first fresh)) lines c fresh same, reached-tells d s (promoted_in b turn) r turn is.order fresh lines c same)

-- one without hooks reports what the recovery does, which is nothing if it fails
pub none-docket : (w : World) (b : BookState) (read : ℕ) (now : Moment) (r : Recovery) (d : Docket) (c : Cause) (lines : List Line) → d.hooks ≡ None
    → (hooked w b read now r d).taken.step ≡ step.Failed c lines → lines ≡ []
none-docket w b read now r d c lines has e =
    let t = taken w b read now r in
    fails-silently w b read now r c lines (subst (λ (o : Option HookState). (with_hooks (record d { hooks = o }) (promoted_in b t) r t).taken.step ≡ step.Failed c lines) has e)
