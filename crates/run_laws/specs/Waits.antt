-- How often jobs may wait.
use Rattle.std.specs.Prelude.{◌≡◌, ℕ, All, List, Some}
use Rattle.run_laws.specs.Prelude.{Command, Row, Scenario, State, Turn, Unended, core_of}
use Rattle.run_laws.specs.BegunJobs.{BegunJob, begun_of}
use Rattle.run_laws.specs.Entries.{recoveries_scanned}
use Rattle.run_laws.specs.Runs.{ComesTo}

-- each operation of the job may wait so often
abbrev pub MayWait : ℕ → Unended → Type 0
MayWait wait u = (core_of u).wait ≡ wait

-- so may those of each job that a command or a scan begins, by what holds throughout the run
pub record BegunMayWait (s : State) : Type 0 where
  pub command : (c : Command) (x : BegunJob) → begun_of s c ≡ Some x → MayWait s.configuration.wait x.job
  pub scan : All (λ x. x.job.core.wait ≡ s.configuration.wait) (recoveries_scanned s)

-- and of each job of each state of a run with so many waits
abbrev pub JobsMayWait : Type 0
JobsMayWait = (s : Scenario) (xs : List (List Row × Turn)) (now : State) (comes : ComesTo s xs now) → (now.configuration.wait ≡ comes.wait) × All (MayWait comes.wait) now.jobs
