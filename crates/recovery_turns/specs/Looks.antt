-- What a turn is to do, as it was looked up before it.
use Rattle.std.specs.Prelude.{◌≡◌, ◌<◌, ◌≤◌, length, All, true, Option, Some, None, vec_capacity}
use Rattle.recovery_turns.specs.Prelude.{AllAllowed, CanFollow, JobStep, Recovery, ServerNo, Taken, World, borne, ended, fate_told, job_after, moved}
use Rattle.recovery_turns.specs.Prelude.{server_of}
use Rattle.recovery_turns.specs.Prelude.Doings.{exchanges_of, takes_memory}
use Rattle.recovery_turns.specs.Prelude.stage
use Rattle.recovery_turns.specs.Prelude.step
use Rattle.recovery_turns.specs.declared.look.RecoveryLook.{RecoveryLook}
use Rattle.recovery_turns.specs.declared.look.Then.{Then}
use Rattle.recovery_turns.specs.declared.look.Then.TheVariants as then
use Rattle.recovery_turns.specs.Deciding.{Fits, decided_on}
use Rattle.recovery_turns.specs.Steps.{IsTold, followed}

-- the recovery after what comes after its decisions, if it goes on
abbrev pub after_then : Recovery → Option Then → Recovery
after_then r None = r
after_then r (Some (then.Follow act ending ops lines)) = followed r ending (job_after r.core act)
after_then r (Some (then.Bear fate ops)) = borne r (fate_told fate)

-- and if it comes to this step
abbrev pub after_step : Recovery → JobStep → Option Then → Recovery
after_step r step.Going then = after_then r then
after_step r (step.Done lines) then = record r { core = ended r.core }
after_step r (step.Failed c lines) then = record r { core = ended r.core }

-- the turn that a look foretells for a recovery
abbrev pub foretold : Recovery → RecoveryLook → Taken
foretold r l = record { step = l.step; observation = l.observation; exchanges = exchanges_of l.doing; recovery = after_step (decided_on r l.decided) l.step l.then }

-- what comes after the decisions can be done: an operation is due, there is room for a stage's operations, and the last
-- lines are there if they may be needed
abbrev pub CanEnd : Recovery → Option Then → Type 0
CanEnd r None = Unit {0}
CanEnd r (Some (then.Follow act ending ops lines)) =
    CanFollow r.core act × (8 ≤ vec_capacity ops) × ((n : ServerNo) → moved r.stage ≡ stage.Opened n → IsTold r lines)
CanEnd r (Some (then.Bear fate ops)) = 8 ≤ vec_capacity ops

-- memory may be wanted only if the recovery goes on and nothing is observed
abbrev pub IsSpare : RecoveryLook → Type 0
IsSpare l = takes_memory l.doing ≡ true → (l.step ≡ step.Going) × (l.observation ≡ None)

-- a turn may do what was looked up, on this world and this recovery: its servers are there, what an attachment goes by
-- has its place, and there is room
pub record CanTake (w : World) (r : Recovery) (l : RecoveryLook) : Type 0 where
  pub servers : All (λ e. server_of e < length w.servers) (exchanges_of l.doing)
  pub allowed : AllAllowed w (exchanges_of l.doing)
  pub spare : IsSpare l
  pub fits : Fits r l.decided
  pub ends : CanEnd (decided_on r l.decided) l.then
