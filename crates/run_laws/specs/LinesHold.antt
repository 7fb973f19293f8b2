-- That the lines of a command's job hold of the servers once it is done.
use Rattle.std.specs.Prelude.{◌≡◌, ℕ, List, Contains, Some}
use Rattle.run_laws.specs.Prelude.{IsApplying, IsUnder, Job, Line, Row, ServerNo, State, World, job_at, reply_of, step}
use Rattle.run_laws.specs.Prelude.act
use Rattle.run_laws.specs.Prelude.answered
use Rattle.run_laws.specs.Prelude.line
use Rattle.run_laws.specs.Prelude.turn
use Rattle.run_laws.specs.Prelude.unended
use Rattle.run_laws.specs.Runs.{InEveryState}

-- each server that a line has below another is attached to it, its applier is on, and isn't to stop at a coordinate
abbrev pub HoldOf : World → List Line → Type 0
HoldOf w lines = (r s : ServerNo) → Contains lines (line.Follows r s) → IsUnder w r.0 s.0 × IsApplying w r.0

-- the lines with which a plan's job is done hold of the servers that its turn leaves, whatever rows are handed back
abbrev pub DoneAsTold : State → Type 0
DoneAsTold s = (rows : List Row) (id : ℕ) (j : Job) (lines : List Line) → job_at s.jobs id ≡ Some (unended.Plan j) → reply_of s (turn.Act (act.Job id)) ≡ answered.Told lines
    → HoldOf (step rows s (turn.Act (act.Job id))).world lines

-- so it is in each state of each run
abbrev pub PlansHold : Type 0
PlansHold = InEveryState DoneAsTold
