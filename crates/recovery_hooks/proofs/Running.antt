-- Which hooks run before a recovery.
use Rattle.std.proofs.Common.{◌≡◌, ◌≢◌, ◌∙◌, ◌+◌, ℕ, zero, suc, Bool, true, false, List, [], ◌∷◌, All, Option, Some, None, take, refl, sym, ap, cond, arith, ◌==◌, slice_get}
use Rattle.std.proofs.lemmas.Bool.{eq-eqb, eqb-true}
use Rattle.std.proofs.lemmas.List.Elements.{All-head, All-tail}
use Rattle.orch_base.specs.Names.{HostPort}
use Rattle.commands.specs.declared.line.HookPhase.TheVariants as phase
use Rattle.hook_texts.specs.declared.hooks.Hook.{Hook}
use Rattle.recovery_hooks.specs.Runs.{after_lines, before_lines, due_after, due_before, lines_of, ran_before, running_before, when_done, AreInOrder, HookState, Passes}

by-exit : (x : Hook) (xs : List Hook) (b : Bool) → (x.exit == 0) ≡ b → running_before (x ∷ xs) ≡ x ∷ cond b (running_before xs) []
by-exit x xs b e = ap (λ (c : Bool). x ∷ cond c (running_before xs) []) e

fails-by : (n : ℕ) → n ≢ 0 → (b : Bool) → (n == 0) ≡ b → b ≡ false
fails-by n ne true e = absurd (ne (eqb-true n 0 e))
fails-by n ne false e = refl

-- those that passed, and one that didn't
pub stops : (hs : List Hook) (n : ℕ) (h : Hook) → All Passes (take n hs) → slice_get hs n ≡ Some h → h.exit ≢ 0 → take (suc n) hs ≡ running_before hs
stops [] n h all at ne = absurd cc
stops (x ∷ xs) zero h all at ne =
    let same : x ≡ h = cc in
    let fails : (x.exit == 0) ≡ false = fails-by x.exit (λ e. ne (sym (ap (λ (k : Hook). k.exit) same) ∙ e)) (x.exit == 0) refl in
    sym (by-exit x xs false fails)
stops (x ∷ xs) (suc n) h all at ne =
    let passes : (x.exit == 0) ≡ true = eq-eqb x.exit 0 (All-head Passes x (take n xs) all) in
    ap (λ (ys : List Hook). x ∷ ys) (stops xs n h (All-tail Passes x (take n xs) all) at ne) ∙ sym (by-exit x xs true passes)

-- all passed
pub passed : (hs : List Hook) (n : ℕ) → All Passes (take n hs) → slice_get hs n ≡ None → take n hs ≡ running_before hs
passed [] zero all at = refl
passed [] (suc n) all at = refl
passed (x ∷ xs) zero all at = absurd cc
passed (x ∷ xs) (suc n) all at =
    let passes : (x.exit == 0) ≡ true = eq-eqb x.exit 0 (All-head Passes x (take n xs) all) in
    ap (λ (ys : List Hook). x ∷ ys) (passed xs n (All-tail Passes x (take n xs) all) at) ∙ sym (by-exit x xs true passes)

-- none is left
pub all-taken : (hs : List Hook) (n : ℕ) → slice_get hs n ≡ None → take n hs ≡ hs
all-taken [] zero at = refl
all-taken [] (suc n) at = refl
all-taken (x ∷ xs) zero at = absurd cc
all-taken (x ∷ xs) (suc n) at = ap (λ (ys : List Hook). x ∷ ys) (all-taken xs n at)

-- ---- the lines

due-unless : (s : HookState) → s.checked ≡ true → due_before s ≡ slice_get s.hooks.pre_failover s.before
due-unless s e = ap (λ (b : Bool). cond b (slice_get s.hooks.pre_failover s.before) None) e

behind-unless : (s : HookState) → s.checked ≡ true → due_after s ≡ slice_get s.hooks.post_failover s.after
behind-unless s e = ap (λ (b : Bool). cond b (slice_get s.hooks.post_failover s.after) None) e

pub got : (b : Bool) (o : Option Hook) (h : Hook) → cond b o None ≡ Some h → o ≡ Some h
got true o h e = e
got false o h e = absurd cc

pub all-before : (s : HookState) → AreInOrder s → s.checked ≡ true → due_before s ≡ None → before_lines s ≡ lines_of phase.PreFailover s.told (running_before s.hooks.pre_failover)
all-before s order checked due = ap (lines_of phase.PreFailover s.told) (passed s.hooks.pre_failover s.before order.passed (sym (due-unless s checked) ∙ due))

pub all-stopped : (s : HookState) (h : Hook) → AreInOrder s → due_before s ≡ Some h → h.exit ≢ 0
    → before_lines (ran_before s) ≡ lines_of phase.PreFailover s.told (running_before s.hooks.pre_failover)
all-stopped s h order due ne =
    let one : s.before + 1 ≡ suc s.before = omega arith in
    ap (λ (n : ℕ). lines_of phase.PreFailover s.told (take n s.hooks.pre_failover)) one
    ∙ ap (lines_of phase.PreFailover s.told) (stops s.hooks.pre_failover s.before h order.passed (got s.checked (slice_get s.hooks.pre_failover s.before) h due) ne)

pub all-behind : (s : HookState) (promoted : Option HostPort) → s.checked ≡ true → due_after s ≡ None
    → after_lines s promoted ≡ lines_of phase.PostFailover (when_done s.told promoted) s.hooks.post_failover
all-behind s promoted checked due =
    ap (lines_of phase.PostFailover (when_done s.told promoted)) (all-taken s.hooks.post_failover s.after (sym (behind-unless s checked) ∙ due))
