-- What holds for a recovery and its hooks, from its start on.
use Rattle.std.specs.Prelude.{◌≡◌, ◌⊎◌, false, List, [], ◌∷◌, Option, None, Some}
use Rattle.unended_laws.specs.Prelude.{Docket, Hooks, IsOfDead, Line, option_map}
use Rattle.unended_jobs.specs.Commands.declared.line.HookPhase.TheVariants as phase
use Rattle.unended_jobs.specs.HookTexts.declared.hooks.Hook.{Hook}
use Rattle.unended_jobs.specs.HookTexts.declared.values.Values.{Values}
use Rattle.unended_jobs.specs.OrchBase.Names.{HostPort}
use Rattle.unended_jobs.specs.Operations.declared.op.Op.TheVariants as op
use Rattle.unended_jobs.specs.RecoveryPlans.declared.purpose.Purpose.TheVariants as purpose
use Rattle.unended_jobs.specs.RecoveryPlans.declared.stage.Stage.TheVariants as stage
use Rattle.unended_jobs.specs.RecoveryPlans.Recoveries.{Recovery}
use Rattle.unended_jobs.specs.RecoveryHooks.Runs.{due_before, lines_of, running_before, when_done, AreInOrder, HookState}

-- it is to look at its failed server, and has stopped none
pub record IsAtCheck (r : Recovery) : Type 0 where
  pub purpose : IsOfDead r.purpose
  pub stage : r.stage ≡ stage.Check
  pub ops : r.core.ops ≡ op.Status r.failed None ∷ []
  pub hands : r.core.hands ≡ []

-- its hooks are in order, and it hasn't looked yet if it is as it began
pub record IsTended (r : Recovery) (s : HookState) : Type 0 where
  pub order : AreInOrder s
  pub first : s.checked ≡ false → IsAtCheck r

-- not all have run before it that are to
abbrev pub IsEarly : HookState → Type 0
IsEarly s = (s.checked ≡ false) ⊎ ((h : Hook) × (due_before s ≡ Some h))

-- the lines of all that run before it
abbrev pub all_before : HookState → List Line
all_before s = lines_of phase.PreFailover s.told (running_before s.hooks.pre_failover)

-- and of all that run after it
abbrev pub all_behind : HookState → Option HostPort → List Line
all_behind s promoted = lines_of phase.PostFailover (when_done s.told promoted) s.hooks.post_failover

-- ---- along its turns

-- its hooks, and their values
abbrev pub plan_of : Option HookState → Option (Hooks × Values)
plan_of o = option_map (λ s. (s.hooks, s.told)) o

-- one that has come of another: with its entry and its hooks, which have the same values
pub record IsOfDocket (had d : Docket) : Type 0 where
  pub entry : d.entry ≡ had.entry
  pub hooks : plan_of d.hooks ≡ plan_of had.hooks
