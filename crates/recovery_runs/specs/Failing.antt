-- For what recoveries fail in the states of runs.
use Rattle.std.specs.Prelude.{◌≡◌, ◌≢◌, ◌⊎◌, ◌+◌, ℕ, true, List, [], ◌∷◌, Option, Some, None, IfSome}
use Rattle.recovery_runs.specs.Prelude.{Befell, BookState, CanEnd, Cause, Docket, Failure, HasNobody, Hook, HookState, IsTrueOf, Moment}
use Rattle.recovery_runs.specs.Prelude.{Observation, Op, Recovery, ServerNo, State, Status, Stops, World, decided, deed_of, due_before, fate}
use Rattle.recovery_runs.specs.Prelude.{front_hook, ground_of, has_source, job_at, next_count, reply_of, seen_in, spoken_to, status}
use Rattle.recovery_runs.specs.Prelude.act
use Rattle.recovery_runs.specs.Prelude.answered
use Rattle.recovery_runs.specs.Prelude.cause
use Rattle.recovery_runs.specs.Prelude.op
use Rattle.recovery_runs.specs.Prelude.stage
use Rattle.recovery_runs.specs.Prelude.taking
use Rattle.recovery_runs.specs.Prelude.turn
use Rattle.recovery_runs.specs.Prelude.unended

-- the turn's operation is a status of the failed server, which shows this
pub record ShowsFailed (w : World) (d : Recovery) (s : Status) : Type 0 where
  pub rest : List Op
  pub due : d.core.ops ≡ op.Status d.failed None ∷ rest
  pub shows : seen_in (status w d.failed.0) ≡ Some s

-- the turn's operation stops for a cause that happened to it, and that is true of the server on which it works
pub record StopsTruly (w : World) (read : ℕ) (now : Moment) (d : Recovery) (c : Cause) : Type 0 where
  pub op : Op
  pub rest : List Op
  pub observation : Option Observation
  pub stops : Stops w read now d op rest c observation
  pub befell : Befell w d.core (deed_of op) c
  pub truth : IfSome (spoken_to (deed_of op)) (λ n. IsTrueOf w n c)

-- Why a turn fails in which a recovery was decided so:
-- - it chooses its new source, and none of the drained may be promoted;
-- - its check reaches the failed server;
-- - the master that is to give up its place is seen with a source;
-- - its operation stops so, the recovery can't go on without it, and the cause is none that ends no recovery.
pub data FailsTruly (w : World) (b : BookState) (read : ℕ) (now : Moment) (r d : Recovery) : Cause → Type 0 where
  Nobody : d.core.ops ≡ [] → HasNobody w b now r d → FailsTruly w b read now r d cause.NoCandidate
  Reached : (s : Status) → d.stage ≡ stage.Check → ShowsFailed w d s → FailsTruly w b read now r d (cause.Reachable d.failed)
  Sourced : (x : ServerNo) (s : Status) → d.stage ≡ stage.Meet d.failed x → ShowsFailed w d s → has_source s.source ≡ true
      → FailsTruly w b read now r d (cause.Moved d.failed s.source)
  Fatal : {c : Cause} → StopsTruly w read now d c → fate w d.purpose d.stage c ≡ taking.Fails → CanEnd d.stage c → FailsTruly w b read now r d c

-- as it is decided in the turn, it fails for this
abbrev pub IsFailing : World → BookState → ℕ → Moment → Recovery → Cause → Type 0
IsFailing w b read now r c = FailsTruly w b read now r (decided (ground_of w b now) r) c

-- a hook that was due before it ran with another exit than 0: the cause has its number, counted from 1, and its exit
pub record IsEndedByHook (d : Docket) (c : Cause) : Type 0 where
  pub hooks : HookState
  pub hook : Hook
  pub runs : d.hooks ≡ Some hooks
  pub due : due_before hooks ≡ Some hook
  pub exit : hook.exit ≢ 0
  pub told : c ≡ cause.HookFailed (hooks.before + 1) hook.exit

-- a recovery that answers a failure fails for what happened in that very turn, if no hook was due before it, or was
-- ended by the one that was
abbrev pub RecoveriesFailForWhatBefell : State → Type 0
RecoveriesFailForWhatBefell s = (id : ℕ) (r : Recovery) (d : Docket) (f : Failure) → job_at s.jobs id ≡ Some (unended.Recovery r d)
    → reply_of s (turn.Act (act.Job id)) ≡ answered.Failed f
    → ((front_hook d.hooks ≡ None) × IsFailing s.world s.book (next_count s.reads) (record { 0 = s.moment }) r f.cause) ⊎ IsEndedByHook d f.cause
