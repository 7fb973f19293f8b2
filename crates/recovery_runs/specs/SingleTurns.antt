-- What single turns and openings leave of recoveries, whatever rows the row store hands back.
use Rattle.std.specs.Prelude.{◌++◌, ℕ, All, List}
use Rattle.recovery_runs.specs.Prelude.{HeldState, IsAimedBeside, Ready, Recovery, Row, Scenario, State, Turn, start, step}
use Rattle.recovery_runs.specs.Begun.{BeginsOnce, ComesOf, jobs_begun}
use Rattle.recovery_runs.specs.States.{AimedState}

-- the jobs that a turn begins are plans, and recoveries as they begin, with their hooks
abbrev pub BeginsJobsOnce : State → Turn → Type 0
BeginsJobsOnce s t = All (BeginsOnce s) (jobs_begun s t)

-- each recovery after a turn was there before it, or begins in it
abbrev pub RecoveriesComeOfThoseBegun : Type 0
RecoveriesComeOfThoseBegun = (count : ℕ) (rows : List Row) (s : State) (t : Turn) → Ready count s → All (ComesOf (s.jobs ++ jobs_begun s t)) (step rows s t).jobs

-- if what begins is about what counts as its start, each recovery stays about what it began with
abbrev pub TurnsKeepAims : Type 0
TurnsKeepAims = (begun : ℕ → Recovery) (rows : List Row) (s : State) (t : Turn) → HeldState s → All (IsAimedBeside begun) (jobs_begun s t) → AimedState begun s → AimedState begun (step rows s t)

-- as any run begins
abbrev pub AtAnyOpening : (State → Type 0) → Type 0
AtAnyOpening P = (s : Scenario) (wait : ℕ) (rows : List Row) → P (start s wait rows)

abbrev pub OpeningsAreAimed : Type 0
OpeningsAreAimed = (begun : ℕ → Recovery) → AtAnyOpening (AimedState begun)
