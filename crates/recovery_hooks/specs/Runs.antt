-- The hooks of one recovery: which of them is due, and which lines those that ran have (orchestrator's documentation,
-- "Recovery hooks").
use Rattle.std.specs.Prelude.{◌≡◌, ◌+◌, ◌<◌, ◌≤◌, ◌-◌, ◌^◌, ◌==◌, ℕ, Bool, false, true, All, List, [], ◌∷◌, ◌++◌, length, map, slice_get, take, if◌then◌else◌, Option, None}
use Rattle.orch_base.specs.Names.{HostPort}
use Rattle.commands.specs.declared.line.HookPhase.{HookPhase}
use Rattle.commands.specs.declared.line.HookPhase.TheVariants as phase
use Rattle.commands.specs.declared.line.Line.{Line}
use Rattle.commands.specs.declared.line.Line.TheVariants as line
use Rattle.hook_texts.specs.Expanded.{expanded}
use Rattle.hook_texts.specs.declared.hooks.Hook.{Hook}
use Rattle.hook_texts.specs.declared.hooks.Hooks.{Hooks}
use Rattle.hook_texts.specs.declared.values.Values.{Values}

-- The hooks, and the values that they get until the recovery is done. `checked` is whether it has looked at its failed
-- server. `before` and `after` are how many of the hooks before and after the recovery have run.
pub record HookState : Type 0 where
  pub hooks : Hooks
  pub told : Values
  pub checked : Bool
  pub before : ℕ
  pub after : ℕ

-- as a recovery begins
abbrev pub begun_hooks : Hooks → Values → HookState
begun_hooks hooks told = record { hooks = hooks; told = told; checked = false; before = 0; after = 0 }

-- of so many of each phase so many have run, and each number fits its type
pub record IsWithin (hooks : Hooks) (before after : ℕ) : Type 0 where
  pub few_before : length hooks.pre_failover < 2 ^ 32
  pub few_after : length hooks.post_failover < 2 ^ 32
  pub ran_before : before ≤ length hooks.pre_failover
  pub ran_after : after ≤ length hooks.post_failover

-- ---- which hook is due

-- before the recovery: the next one, once it has looked at its failed server
abbrev pub due_before : HookState → Option Hook
due_before s = if s.checked then slice_get s.hooks.pre_failover s.before else None

-- after it: the next one
abbrev pub due_after : HookState → Option Hook
due_after s = if s.checked then slice_get s.hooks.post_failover s.after else None

-- so many are still to run, if none of them ends the recovery
abbrev pub hooks_left : HookState → ℕ
hooks_left s = (length s.hooks.pre_failover - s.before) + (length s.hooks.post_failover - s.after)

-- ---- what they make of it

abbrev pub checked : HookState → HookState
checked s = record s { checked = true }

abbrev pub ran_before : HookState → HookState
ran_before s = record s { before = s.before + 1 }

abbrev pub ran_after : HookState → HookState
ran_after s = record s { after = s.after + 1 }

-- ---- their lines

-- what ran, with the recovery's values in its text, and what it answered
abbrev pub line_of : HookPhase → Values → Hook → Line
line_of p v h = line.Hook p (expanded v h.text) h.exit

abbrev pub lines_of : HookPhase → Values → List Hook → List Line
lines_of p v hs = map (line_of p v) hs

-- after a recovery that is done hooks get that it is, and the promoted server
abbrev pub when_done : Values → Option HostPort → Values
when_done v promoted = record v { successor = promoted; successful = true }

-- of those that ran before it
abbrev pub before_lines : HookState → List Line
before_lines s = lines_of phase.PreFailover s.told (take s.before s.hooks.pre_failover)

-- of all that run if it failed
abbrev pub unsuccessful_lines : HookState → List Line
unsuccessful_lines s = lines_of phase.PostUnsuccessful s.told s.hooks.post_unsuccessful

-- of those that ran after it
abbrev pub after_lines : HookState → Option HostPort → List Line
after_lines s promoted = lines_of phase.PostFailover (when_done s.told promoted) (take s.after s.hooks.post_failover)

-- of a recovery that failed, and of one that is done
abbrev pub failed_lines : HookState → List Line
failed_lines s = before_lines s ++ unsuccessful_lines s

abbrev pub done_lines : HookState → Option HostPort → List Line
done_lines s promoted = before_lines s ++ after_lines s promoted

-- ---- what holds of them

-- a hook before a recovery that doesn't end it
abbrev pub Passes : Hook → Type 0
Passes h = h.exit ≡ 0

-- those that run before a recovery that goes so far: up to the first with another exit than 0, that one too
abbrev pub running_before : List Hook → List Hook
running_before [] = []
running_before (h ∷ hs) = h ∷ (if h.exit == 0 then running_before hs else [])

-- Before it has looked at its failed server none has run. Those that ran before it had no exit but 0. One ran after it
-- only once all had run before it.
pub record AreInOrder (s : HookState) : Type 0 where
  pub first : s.checked ≡ false → (s.before ≡ 0) × (s.after ≡ 0)
  pub passed : All Passes (take s.before s.hooks.pre_failover)
  pub last : 1 ≤ s.after → length s.hooks.pre_failover ≤ s.before
