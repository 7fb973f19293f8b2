-- The turn of a job in a state.
use Rattle.std.specs.Prelude.{ℕ, Option}
use Rattle.orch_core.specs.Prelude.{Flown, Unended, flown, job_at, next_count, option_map}
use Rattle.orch_core.specs.States.{State}

-- the turn of a job, with the next read number and the moment for what it observes
abbrev pub turn_of : State → Unended → Flown
turn_of s u = flown s.world s.book (next_count s.reads) (record { 0 = s.moment }) u

-- none if there is no such job
abbrev pub turned_at : State → ℕ → Option Flown
turned_at s id = option_map (turn_of s) (job_at s.jobs id)
