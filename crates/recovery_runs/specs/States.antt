-- What holds for a state's recoveries beside `Held` and `Sound`.
use Rattle.std.specs.Prelude.{◌≡◌, ℕ, All, Bool, Some}
use Rattle.recovery_runs.specs.Prelude.{AimedJobs, CoveredJobs, Fact, HookState, IsTended, KeptJobs, Recovery, SpeakingJobs, State, Unended, UpJobs, flight_of}
use Rattle.recovery_runs.specs.Prelude.unended

-- in every state, with errant writes or without
abbrev pub CoveredState : State → Type 0
CoveredState s = CoveredJobs (flight_of s) s.jobs

-- in every one without errant writes
abbrev pub KeptState : State → Type 0
KeptState s = KeptJobs (flight_of s) s.jobs

-- in every state
abbrev pub SpeakingState : State → Type 0
SpeakingState s = SpeakingJobs s.jobs

-- in every state, of what the recovery of each number began with
abbrev pub AimedState : (ℕ → Recovery) → State → Type 0
AimedState begun s = AimedJobs begun s.jobs

-- the hooks of a recovery are in order, and it hasn't looked at its failed server yet if it is as it began
abbrev pub IsTendedBeside : Unended → Type 0
IsTendedBeside (unended.Plan j) = Unit {0}
IsTendedBeside (unended.Recovery r docket) = (h : HookState) → docket.hooks ≡ Some h → IsTended r h

-- in every state
pub record TendedState (s : State) : Type 0 where
  pub jobs : All IsTendedBeside s.jobs

-- in every state, of the recovery of this number, if these facts count
abbrev pub UpState : (Fact → Bool) → ℕ → State → Type 0
UpState P id s = UpJobs P id (flight_of s) s.jobs
