-- Time, and the numbers of jobs.
use Rattle.std.specs.Prelude.{◌≡◌, ◌≢◌, ℕ, ◌+◌, ◌≤◌, ◌^◌, All, IfSome, List, false, min, true}
use Rattle.run_laws.specs.Prelude.{Recovery, Rise, Row, State, Turn, asks, step}
use Rattle.run_laws.specs.Prelude.turn

-- only a tick lets time pass, by its seconds, up to the end of the range of moments; a restart never turns it back
pub record PassesTime (s : State) (t : Turn) : Type 0 where
  pub tick : (rows : List Row) (seconds : ℕ) → t ≡ turn.Tick seconds → (step rows s t).moment ≡ min (s.moment + seconds) (2 ^ 63)
  pub still : (rows : List Row) → asks s t ≡ false → ((seconds : ℕ) → t ≢ turn.Tick seconds) → (step rows s t).moment ≡ s.moment
  pub restart : (rows : List Row) → asks s t ≡ true → s.moment ≤ (step rows s t).moment

-- a recovery began by this moment, and ended by it if it is ended
pub record IsPast (now : ℕ) (r : Recovery) : Type 0 where
  pub begun : r.begun.0 ≤ now
  pub ended : IfSome r.ended (λ e. e.0 ≤ now)

-- no recovery is of a later moment
abbrev pub NothingIsToCome : State → Type 0
NothingIsToCome s = All (IsPast s.moment) s.audit.recoveries

-- ---- the numbers of jobs

-- those of the unended ones rise up to that of the last job, which never sinks
abbrev pub JobsRise : State → Type 0
JobsRise s = Rise 0 s.jobs s.last_job

abbrev pub LastJobNeverSinks : Type 0
LastJobNeverSinks = (rows : List Row) (s : State) (t : Turn) → s.last_job ≤ (step rows s t).last_job
