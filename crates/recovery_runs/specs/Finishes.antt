-- The turn in which a recovery is done, and what it owes then.
use Rattle.std.specs.Prelude.{◌≡◌, ◌<◌, ◌||◌, ◌++◌, true, false, ℕ, List, [], All, Option, Some, None}
use Rattle.recovery_runs.specs.Prelude.{Cause, Docket, HasOnePlace, Hooked, HookState, HostPort, IsBeginning, IsChain, IsNamedOutcome, IsTold}
use Rattle.recovery_runs.specs.Prelude.{JobStep, Keeps, Line, Moment, Purpose, Recovery, SameAim, ServerNo, State, Taken, World, all_before}
use Rattle.recovery_runs.specs.Prelude.{all_behind, done_lines, hooked, is_takeover, job_at, moment_at, next_count, promoted_in, taken, times}
use Rattle.recovery_runs.specs.Prelude.{unsuccessful_lines}
use Rattle.recovery_runs.specs.Prelude.KeptRows.{Recovery as KeptRecovery}
use Rattle.recovery_runs.specs.Prelude.cause
use Rattle.recovery_runs.specs.Prelude.ending
use Rattle.recovery_runs.specs.Prelude.jobstep as step
use Rattle.recovery_runs.specs.Prelude.purpose
use Rattle.recovery_runs.specs.Prelude.unended

-- a recovery's own turn in a state
abbrev pub turn_taken : State → Recovery → Taken
turn_taken s r = taken s.world s.book (next_count s.reads) (moment_at s) r

-- and the recovery after it
abbrev pub recovery_after : State → Recovery → Recovery
recovery_after s r = (turn_taken s r).recovery

-- the turn of its job, which may be that of a hook
abbrev pub turn_hooked : State → Recovery → Docket → Hooked
turn_hooked s r d = hooked s.world s.book (next_count s.reads) (moment_at s) r d

-- the name of the server that it promoted, if there is one
abbrev pub promoted_then : State → Recovery → Option HostPort
promoted_then s r = promoted_in s.book (turn_taken s r)

-- the lines with which a step is done
abbrev pub done_with : JobStep → List Line
done_with step.Going = []
done_with (step.Done lines) = lines
done_with (step.Failed c lines) = []

-- its own lines, without those of its hooks
abbrev pub own_lines : State → Recovery → List Line
own_lines s r = done_with (turn_taken s r).step

-- those of its hooks that ran
abbrev pub ran_lines : Option HookState → Option HostPort → List Line
ran_lines None promoted = []
ran_lines (Some h) promoted = done_lines h promoted

-- those of all that run if it is done: all before it up to the first with another exit than 0, and all after it
abbrev pub told_hooks : Option HookState → Option HostPort → List Line
told_hooks None promoted = []
told_hooks (Some h) promoted = all_before h ++ all_behind h promoted

-- Those of all that run if it fails: none before it if its failed server was reached, else all that run before it; and
-- all that run then.
pub record FailsTelling (h : HookState) (f : ServerNo) (c : Cause) (lines : List Line) : Type 0 where
  pub looked : h.checked ≡ true → lines ≡ all_before h ++ unsuccessful_lines h
  pub reached : h.checked ≡ false → (c ≡ cause.Reachable f) × (lines ≡ unsuccessful_lines h)

-- one without hooks has none
abbrev pub TellsFailed : Option HookState → ServerNo → Cause → List Line → Type 0
TellsFailed None f c lines = lines ≡ []
TellsFailed (Some h) f c lines = FailsTelling h f c lines

-- the job of this number is a recovery with this `Docket`, and its turn is the one in which it is done, with these
-- lines
pub record IsFinish (s : State) (id : ℕ) (r : Recovery) (docket : Docket) (lines : List Line) : Type 0 where
  pub found : job_at s.jobs id ≡ Some (unended.Recovery r docket)
  pub done : (turn_hooked s r docket).taken.step ≡ step.Done lines

-- or it is the one in which it fails for this cause, with these lines
pub record IsFailure (s : State) (id : ℕ) (r : Recovery) (docket : Docket) (c : Cause) (lines : List Line) : Type 0 where
  pub found : job_at s.jobs id ≡ Some (unended.Recovery r docket)
  pub failed : (turn_hooked s r docket).taken.step ≡ step.Failed c lines

-- What it owes, over so many servers. It is about whom it was about. Its outcome covers the replicas and is what its
-- own lines report. Each follower follows the promoted server, or after a swap the chosen one, which does. Each replica
-- has one place, and the outcome names servers that are there.
pub record OwesNothing (count : ℕ) (w : World) (before after : Recovery) (lines : List Line) : Type 0 where
  pub aim : SameAim before after
  pub told : IsTold w after lines
  pub chain : IsChain after
  pub placed : (n : ℕ) → 0 < times n before.replicas → HasOnePlace before.purpose after.outcome n
  pub named : IsNamedOutcome count after.outcome

-- What it owes of histories. The promoted server has what each that might have been chosen had when it was drained. The
-- designated one has what the old master of a takeover has.
pub record KeepsHistories (w : World) (before after : Recovery) : Type 0 where
  pub promoted : (n : ServerNo) → after.outcome.promoted ≡ Some n → All (λ s. Keeps w before.failed.0 s.exec n.0) after.eligible
  pub old : (d : ServerNo) → before.purpose ≡ purpose.Takeover d → IsBeginning w before.failed.0 d.0

-- an entry of the audit that ends with a promoted server; a takeover's is acknowledged, too
abbrev pub finished_so : Moment → Purpose → ServerNo → KeptRecovery → KeptRecovery
finished_so now u n k = record k { ended = Some now; outcome = ending.Promoted n; acked = is_takeover u || k.acked }
