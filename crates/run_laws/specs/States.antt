-- What holds for a state whose jobs are plans and recoveries: for its `Flight`, and for each recovery beside it.
use Rattle.run_laws.specs.Prelude.{HeldJobs, SoundJobs, State}
use Rattle.run_laws.specs.Flights.{flight_of}

-- in every state, with errant writes or without
abbrev pub HeldState : State → Type 0
HeldState s = HeldJobs (flight_of s) s.jobs

-- in every one without errant writes
abbrev pub SoundState : State → Type 0
SoundState s = SoundJobs (flight_of s) s.jobs
