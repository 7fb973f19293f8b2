-- For what jobs fail in the states of runs.
use Rattle.std.specs.Prelude.{◌≡◌, ℕ, ◌<◌, List, ◌∷◌, length, Some}
use Rattle.run_laws.specs.Prelude.{AllFree, AllGoing, AreSpent, Befell, Cause, Failure, IsDoneIn, Job, Line, Meeting, Op, ServerNo, State, Unended}
use Rattle.run_laws.specs.Prelude.{World, deed_of, job_after, job_at, reply_of, turn_at, turns_left}
use Rattle.run_laws.specs.Prelude.act
use Rattle.run_laws.specs.Prelude.answered
use Rattle.run_laws.specs.Prelude.cause
use Rattle.run_laws.specs.Prelude.jobstep as step
use Rattle.run_laws.specs.Prelude.turn
use Rattle.run_laws.specs.Prelude.unended

-- this happened to the operation that is due
pub record IsBefallen (w : World) (j : Job) (c : Cause) : Type 0 where
  pub op : Op
  pub rest : List Op
  pub due : j.ops ≡ op ∷ rest
  pub befell : Befell w j (deed_of op) c

-- the cause of a plan's job that answers a failure happened in that very turn
abbrev pub PlansFailForWhatBefell : State → Type 0
PlansFailForWhatBefell s = (id : ℕ) (j : Job) (f : Failure) → job_at s.jobs id ≡ Some (unended.Plan j) → reply_of s (turn.Act (act.Job id)) ≡ answered.Failed f → IsBefallen s.world j f.cause

-- if nothing happens to it in the turns to come, it is done within those that it has left, with its operations' lines
abbrev pub PlansAreDone : State → Type 0
PlansAreDone s = (id : ℕ) (j : Job) (ms : List Meeting) → job_at s.jobs id ≡ Some (unended.Plan j) → turns_left j < length ms → AllFree j ms → IsDoneIn j ms

-- if it fails because its waits are spent, its last turns were all the waits of the operation that was due
abbrev pub SpendsWaitsLast : Unended → Type 0
SpendsWaitsLast u = (j : Job) (ms : List Meeting) (m : Meeting) (n : ServerNo) (lines : List Line) → u ≡ unended.Plan j → AllGoing j ms
    → (turn_at (job_after j ms) m).step ≡ step.Failed (cause.WaitSpent n) lines → AreSpent j ms n
