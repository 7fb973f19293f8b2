-- The turn of a recovery with hooks: a hook's turn, or its own (orchestrator's documentation, "Recovery hooks").
use Rattle.std.specs.Prelude.{ℕ, ◌+◌, ◌<◌, ◌==◌, ◌++◌, [], length, slice_get, if◌then◌else◌, Option, None, Some}
use Rattle.unended_jobs.specs.Prelude.{BookState, Hook, HookState, HostPort, JobStep, Moment, Recovery, ServerNo, Taken, World, checked, done_lines}
use Rattle.unended_jobs.specs.Prelude.{due_after, due_before, failed_lines, hooks_left, option_map, ran_after, ran_before, taken}
use Rattle.unended_jobs.specs.Prelude.cause
use Rattle.unended_jobs.specs.Prelude.step
use Rattle.unended_jobs.specs.declared.docket.Docket.{Docket}
use Rattle.unended_jobs.specs.declared.look.Place.{Place}
use Rattle.unended_jobs.specs.declared.look.Place.TheVariants as place

-- of a recovery without an entry and hooks
abbrev pub no_docket : Docket
no_docket = record { entry = None; hooks = None }

abbrev pub with_hooks_of : Docket → (HookState → HookState) → Docket
with_hooks_of d after = record d { hooks = option_map after d.hooks }

-- a turn of a recovery, and its hooks' state after it
pub record Hooked : Type 0 where
  pub taken : Taken
  pub docket : Docket

-- ---- which hook is due

-- before the recovery
abbrev pub front_hook : Option HookState → Option Hook
front_hook None = None
front_hook (Some s) = due_before s

-- after it, if its own turn would be the one in which it is done
abbrev pub due_at : HookState → JobStep → Option Hook
due_at s step.Going = None
due_at s (step.Done lines) = due_after s
due_at s (step.Failed c lines) = None

abbrev pub rear_hook : Option HookState → JobStep → Option Hook
rear_hook None own = None
rear_hook (Some s) own = due_at s own

-- so many are still to run, if none of them ends the recovery
abbrev pub left_of : Option HookState → ℕ
left_of None = 0
left_of (Some s) = hooks_left s

-- ---- what a turn answers

-- a hook before the recovery ends it if its exit isn't 0; hooks count from 1
abbrev pub told_before : HookState → Hook → JobStep
told_before s h = if h.exit == 0 then step.Going else step.Failed (cause.HookFailed (s.before + 1) h.exit) (failed_lines (ran_before s))

abbrev pub step_before : Option HookState → Hook → JobStep
step_before None h = step.Going
step_before (Some s) h = told_before s h

-- the recovery's own turn has the lines of the hooks after its own
abbrev pub told_with : HookState → Option HostPort → JobStep → JobStep
told_with s promoted step.Going = step.Going
told_with s promoted (step.Done lines) = step.Done (lines ++ done_lines s promoted)
told_with s promoted (step.Failed c lines) = step.Failed c (failed_lines s)

abbrev pub step_with : Option HookState → Option HostPort → JobStep → JobStep
step_with None promoted own = own
step_with (Some s) promoted own = told_with s promoted own

-- ---- the turn

-- nothing is exchanged and observed, and the recovery is as it was
abbrev pub quiet : Recovery → JobStep → Taken
quiet r s = record { step = s; observation = None; exchanges = []; recovery = r }

abbrev pub own_turn : Docket → Option HostPort → Taken → Hooked
own_turn d promoted t = record { taken = record t { step = step_with d.hooks promoted t.step }; docket = with_hooks_of d checked }

-- that of a hook after it, or its own
abbrev pub rear_turn : Docket → Option HostPort → Recovery → Taken → Option Hook → Hooked
rear_turn d promoted r t None = own_turn d promoted t
rear_turn d promoted r t (Some h) = record { taken = quiet r step.Going; docket = with_hooks_of d ran_after }

-- that of a hook before it, or one of those
abbrev pub front_turn : Docket → Option HostPort → Recovery → Taken → Option Hook → Hooked
front_turn d promoted r t None = rear_turn d promoted r t (rear_hook d.hooks t.step)
front_turn d promoted r t (Some h) = record { taken = quiet r (step_before d.hooks h); docket = with_hooks_of d ran_before }

-- if its own turn would be this
abbrev pub with_hooks : Docket → Option HostPort → Recovery → Taken → Hooked
with_hooks d promoted r t = front_turn d promoted r t (front_hook d.hooks)

-- the name of the promoted server, if there is one
abbrev pub name_of : BookState → Option ServerNo → Option HostPort
name_of b None = None
name_of b (Some n) = slice_get b.names n.0

abbrev pub promoted_in : BookState → Taken → Option HostPort
promoted_in b t = name_of b t.recovery.outcome.promoted

abbrev pub hooked : World → BookState → ℕ → Moment → Recovery → Docket → Hooked
hooked w b read now r d = with_hooks d (promoted_in b (taken w b read now r)) r (taken w b read now r)

-- ---- as it was looked up

abbrev pub after_place : Place → HookState → HookState
after_place place.Before s = ran_before s
after_place place.Behind s = ran_after s

-- a hook of this place is left
abbrev pub IsLeft : HookState → Place → Type 0
IsLeft s place.Before = s.before < length s.hooks.pre_failover
IsLeft s place.Behind = s.after < length s.hooks.post_failover

abbrev pub CanRun : Option HookState → Place → Type 0
CanRun None p = Unit {0}
CanRun (Some s) p = IsLeft s p
