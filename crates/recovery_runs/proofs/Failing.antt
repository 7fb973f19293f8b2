-- A recovery fails for what happened to it.
use Rattle.std.proofs.Common.{◌≡◌, ◌∙◌, ◌+◌, ℕ, Bool, true, false, cond, List, [], ◌∷◌, refl, sym, ap, subst, Option, Some, None, ◌⊎◌, inl, inr, ◌==◌, IfSome, All}
use Rattle.recovery_runs.proofs.Prelude.{All-find, All-head, Attempt, BookState, Cause, ComesTo, Deed, Docket, Exchange, FailsTruly, Failure, Fate}
use Rattle.recovery_runs.proofs.Prelude.{Fine, HasNobody, Hook, HookState, HostPort, IsEndedByHook, IsFailing, IsOnWay, IsSpeakingBeside, IsTrueOf}
use Rattle.recovery_runs.proofs.Prelude.{Job, JobStep, Line, Moment, Observation, Op, ReadsNow, RecoveriesFailForWhatBefell, Recovery, Scenario}
use Rattle.recovery_runs.proofs.Prelude.{ServerNo, ShowsFailed, ShowsNow, SpeakingState, Speaks, Stage, State, Status, Taken, Unended, World, acted}
use Rattle.recovery_runs.proofs.Prelude.{attempted, barred_by, by_deed, cause-true, decided, decided-walks, decides-fine, decisions-keep, deed_of}
use Rattle.recovery_runs.proofs.Prelude.{eq-eqb, failed_lines, false≢true, fatal-ends, fate, finds-nobody, front_hook, front_turn, ground_of}
use Rattle.recovery_runs.proofs.Prelude.{has_source, info, job_reply, met, next_count, number_of, on_going, option_map, position_of, promoted_in}
use Rattle.recovery_runs.proofs.Prelude.{ran_before, read-now, rear_hook, rear_turn, same_Some, seen_in, seen_of, source_cause, spoken_to, status}
use Rattle.recovery_runs.proofs.Prelude.{step_before, step_reply, step_with, still-on, stopped-befell, taken, turn_of, with_hooks}
use Rattle.recovery_runs.proofs.Prelude.answered
use Rattle.recovery_runs.proofs.Prelude.attempt
use Rattle.recovery_runs.proofs.Prelude.cause
use Rattle.recovery_runs.proofs.Prelude.failing
use Rattle.recovery_runs.proofs.Prelude.job_step as step
use Rattle.recovery_runs.proofs.Prelude.op
use Rattle.recovery_runs.proofs.Prelude.stage
use Rattle.recovery_runs.proofs.Prelude.table
use Rattle.recovery_runs.proofs.Prelude.taking
use Rattle.recovery_runs.proofs.Prelude.unended
use Rattle.recovery_runs.proofs.Origins.{Step}
use Rattle.recovery_runs.proofs.Tending.{tends-comes}

-- ---- its own turn

-- as it was decided so
module _ (w : World) (b : BookState) (read : ℕ) (now : Moment) (r so : Recovery) (fine : Fine so) (found : so.core.ops ≡ [] → HasNobody w b now r so) where
  abbrev IsFirst : Op → Type 0
  IsFirst x = x ≡ op.Status so.failed None

  module _ (o : Op) (rest : List Op) (is : so.core.ops ≡ o ∷ rest) where
    on : IsOnWay so
    on = still-on so o rest is fine

    -- if what is seen may end it, its operation is a status of the failed server
    first : ((info so.stage).bar ≡ table.Never → ⊥) → IsFirst o
    first barred = go on.course.stage.first
      where
        go : ((info so.stage).bar ≡ table.Never) ⊎ All IsFirst so.core.ops → IsFirst o
        go (inl never) = absurd (barred never)
        go (inr all) = All-head IsFirst o rest (subst (λ (xs : List Op). All IsFirst xs) is all)

    -- which observes it, and notes its position
    shown : IsFirst o → (ob : Option Observation) (es : List Exchange) (j : Job) → by_deed w read now so.core rest (deed_of o) ≡ attempt.Goes ob es j → ShowsNow w j.seen so.failed
    shown same ob es j goes =
        subst (λ (a : Attempt). ReadsNow w so.failed a) (subst (λ (x : Op). by_deed w read now so.core rest (deed_of x) ≡ attempt.Goes ob es j) same goes)
        (read-now w read now so.core rest so.failed)

    shows-failed : (same : IsFirst o) (s : Status) → seen_in (status w so.failed.0) ≡ Some s → ShowsFailed w so s
    shows-failed same s shows = record { rest = rest; due = is ∙ ap (λ (x : Op). x ∷ rest) same; shows = shows }

    barred-truly : (ob : Option Observation) (es : List Exchange) (j : Job) (c : Cause) → by_deed w read now so.core rest (deed_of o) ≡ attempt.Goes ob es j → (s : Stage) → so.stage ≡ s → barred_by s so.failed j.seen ≡ Some c
        → FailsTruly w b read now r so c
    barred-truly ob es j c goes stage.Check at h =
        let same = first (λ never. let bad : table.Reached ≡ table.Never = sym (ap (λ (k : Stage). (info k).bar) at) ∙ never in cc) in
        let y = shown same ob es j goes in
        subst (FailsTruly w b read now r so) (same_Some (cause.Reachable so.failed) c h) (failing.Reached y.0 at (shows-failed same y.0 y.1))
    barred-truly ob es j c goes (stage.Meet m x) at h =
        let same = first (λ never. let bad : table.Sourced m ≡ table.Never = sym (ap (λ (k : Stage). (info k).bar) at) ∙ never in cc) in
        let y = shown same ob es j goes in
        let who : m ≡ so.failed = (on.course.stage.meets m x (inl at)).0 in
        let there : so.stage ≡ stage.Meet so.failed x = at ∙ ap (λ (n : ServerNo). stage.Meet n x) who in
        let seen : source_cause so.failed (Some (position_of y.0)) ≡ Some c = ap (source_cause so.failed) (sym y.2) ∙ (ap (λ (n : ServerNo). source_cause n (seen_of j.seen n.0)) (sym who) ∙ h) in
        go y.0 (shows-failed same y.0 y.1) there (has_source y.0.source) refl seen
      where
        go : (s : Status) → ShowsFailed w so s → so.stage ≡ stage.Meet so.failed x → (a : Bool) → has_source s.source ≡ a → cond a (Some (cause.Moved so.failed s.source)) None ≡ Some c → FailsTruly w b read now r so c
        go s shows there true has e = subst (FailsTruly w b read now r so) (same_Some (cause.Moved so.failed s.source) c e) (failing.Sourced x s there shows has)
        go s shows there false has e = cc
    barred-truly ob es j c goes s at h = cc

    true-of : (x : Deed) (c : Cause) (ob : Option Observation) → by_deed w read now so.core rest x ≡ attempt.Stops c ob → (q : Option ServerNo) → spoken_to x ≡ q → IfSome q (λ n. IsTrueOf w n c)
    true-of x c ob stops None e = tt
    true-of x c ob stops (Some n) e = cause-true w read now so.core rest x n c ob e stops

    stopped-truly : (c : Cause) (ob : Option Observation) → by_deed w read now so.core rest (deed_of o) ≡ attempt.Stops c ob → fate w so.purpose so.stage c ≡ taking.Fails → FailsTruly w b read now r so c
    stopped-truly c ob stops fatal =
        failing.Fatal
        (record {
          op = o;
          rest = rest;
          observation = ob;
          stops = record { ops = is; stops = stops };
          befell = stopped-befell w read now so.core rest (deed_of o) c ob stops;
          truth = true-of (deed_of o) c ob stops (spoken_to (deed_of o)) refl;
        })
        fatal
        (fatal-ends w so.purpose so.stage c fatal)

  module _ (c : Cause) (lines : List Line) where
    abbrev Failed : JobStep → Type 0
    Failed x = x ≡ step.Failed c lines

    at-fate : (o : Op) (rest : List Op) (is : so.core.ops ≡ o ∷ rest) (k : Cause) (ob : Option Observation) → by_deed w read now so.core rest (deed_of o) ≡ attempt.Stops k ob → (f : Fate) → fate w so.purpose so.stage k ≡ f
        → Failed (met w so k ob f).step → FailsTruly w b read now r so c
    at-fate o rest is k ob stops taking.Fails e h = let same : k ≡ c = cc in subst (FailsTruly w b read now r so) same (stopped-truly o rest is k ob stops e)
    at-fate o rest is k ob stops _ e h = cc

    at-bar : (o : Op) (rest : List Op) (is : so.core.ops ≡ o ∷ rest) (ob : Option Observation) (es : List Exchange) (j : Job) → by_deed w read now so.core rest (deed_of o) ≡ attempt.Goes ob es j → (x : Option Cause)
        → barred_by so.stage so.failed j.seen ≡ x → Failed (on_going w so o ob es j x).step → FailsTruly w b read now r so c
    at-bar o rest is ob es j goes None e h = cc
    at-bar o rest is ob es j goes (Some k) e h = let same : k ≡ c = cc in subst (FailsTruly w b read now r so) same (barred-truly o rest is ob es j k goes so.stage refl e)

    at-op : (o : Op) (rest : List Op) (is : so.core.ops ≡ o ∷ rest) (a : Attempt) → by_deed w read now so.core rest (deed_of o) ≡ a → Failed (attempted w so o a).step → FailsTruly w b read now r so c
    at-op o rest is (attempt.Goes ob es j) e h = at-bar o rest is ob es j e (barred_by so.stage so.failed j.seen) refl h
    at-op o rest is (attempt.Stops k ob) e h = at-fate o rest is k ob e (fate w so.purpose so.stage k) refl h
    at-op o rest is (attempt.Ends ls) e h = cc

    at-ops : (ops : List Op) → so.core.ops ≡ ops → Failed (acted w read now so ops).step → FailsTruly w b read now r so c
    at-ops [] is h = let same : cause.NoCandidate ≡ c = cc in subst (FailsTruly w b read now r so) same (failing.Nobody is (found is))
    at-ops (o ∷ rest) is h = at-op o rest is (by_deed w read now so.core rest (deed_of o)) refl h

fails-truly : (w : World) (b : BookState) (read : ℕ) (now : Moment) (r : Recovery) → Speaks r → (c : Cause) (lines : List Line) → (taken w b read now r).step ≡ step.Failed c lines → IsFailing w b read now r c
fails-truly w b read now r speaks c lines h =
    at-ops w b read now r (decided (ground_of w b now) r) (decisions-keep w b now Fine (decides-fine w b now) (decided-walks w b now r) (inl speaks.way)) (finds-nobody w b now r speaks.way speaks.knows) c lines
    (decided (ground_of w b now) r).core.ops refl h

-- ---- with hooks

module _ (d : Docket) (promoted : Option HostPort) (r : Recovery) (t : Taken) (f : Failure) where
  -- its own turn failed for the same, whatever its lines are
  abbrev OwnFails : JobStep → Type 0
  OwnFails x = (lines : List Line) × (x ≡ step.Failed f.cause lines)

  own-fails : (o : Option HookState) (x : JobStep) → step_reply (step_with o promoted x) ≡ answered.Failed f → OwnFails x
  own-fails None (step.Failed c lines) h = let same : c ≡ f.cause = cc in (lines, ap (λ (k : Cause). step.Failed k lines) same)
  own-fails (Some s) (step.Failed c lines) h = let same : c ≡ f.cause = cc in (lines, ap (λ (k : Cause). step.Failed k lines) same)
  own-fails _ _ h = absurd cc

  rear-fails : (o : Option Hook) → step_reply (rear_turn d promoted r t o).taken.step ≡ answered.Failed f → OwnFails t.step
  rear-fails None h = own-fails d.hooks t.step h
  rear-fails (Some k) h = absurd cc

  -- or the hook before it ended it
  hook-ends : (o : Option HookState) (k : Hook) → d.hooks ≡ o → front_hook o ≡ Some k → step_reply (step_before o k) ≡ answered.Failed f → IsEndedByHook d f.cause
  hook-ends None k runs due h = absurd cc
  hook-ends (Some s) k runs due h = go (k.exit == 0) refl h
    where
      go : (b : Bool) → (k.exit == 0) ≡ b → step_reply (cond b step.Going (step.Failed (cause.HookFailed (s.before + 1) k.exit) (failed_lines (ran_before s)))) ≡ answered.Failed f
          → IsEndedByHook d f.cause
      go true passes e = absurd cc
      go false other e =
          let same : cause.HookFailed (s.before + 1) k.exit ≡ f.cause = cc in
          record { hooks = s; hook = k; runs = runs; due = due; exit = λ z. false≢true (sym other ∙ eq-eqb k.exit 0 z); told = sym same }

  front-fails : (o : Option Hook) → front_hook d.hooks ≡ o → step_reply (front_turn d promoted r t o).taken.step ≡ answered.Failed f
      → ((front_hook d.hooks ≡ None) × OwnFails t.step) ⊎ IsEndedByHook d f.cause
  front-fails None due h = inl (due, rear-fails (rear_hook d.hooks t.step) h)
  front-fails (Some k) due h = inr (hook-ends d.hooks k refl due h)

recoveries-fail : (s : State) → SpeakingState s → RecoveriesFailForWhatBefell s
recoveries-fail s speaking = λ id r d f found fails.
    let now : Moment = record { 0 = s.moment } in
    let t = taken s.world s.book (next_count s.reads) now r in
    let speaks = All-find IsSpeakingBeside (λ (k : Unended). number_of k == id) s.jobs (unended.Recovery r d) speaking.jobs found in
    let said : step_reply (with_hooks d (promoted_in s.book t) r t).taken.step ≡ answered.Failed f = sym (ap (λ (o : Option Unended). job_reply (option_map (turn_of s) o)) found) ∙ fails in
    go now r d f speaks (front-fails d (promoted_in s.book t) r t f (front_hook d.hooks) refl said)
  where
    go : (now : Moment) (r : Recovery) (d : Docket) (f : Failure) → Speaks r → ((front_hook d.hooks ≡ None) × OwnFails d None r (taken s.world s.book (next_count s.reads) now r) f (taken s.world s.book (next_count s.reads) now r).step) ⊎ IsEndedByHook d f.cause
        → ((front_hook d.hooks ≡ None) × IsFailing s.world s.book (next_count s.reads) now r f.cause) ⊎ IsEndedByHook d f.cause
    go now r d f speaks (inl x) = inl (x.0, fails-truly s.world s.book (next_count s.reads) now r speaks f.cause x.1.0 x.1.1)
    go now r d f speaks (inr x) = inr x

-- in every state of every run
pub fail-comes : (s : Scenario) (xs : List Step) (now : State) → ComesTo s xs now → RecoveriesFailForWhatBefell now
fail-comes s xs now comes = recoveries-fail now (tends-comes s xs now comes).cares.speaking
