-- Jobs in the states of runs: they keep to their leases, and leave fewer turns.
use Rattle.std.specs.Prelude.{◌≡◌, ◌<◌, ℕ, List, All, Some, map, true}
use Rattle.run_laws.specs.Prelude.{HasLeases, IsLeased, Row, State, Unended, core_of, is_open, job_at, leases_of, most_turns, server_at, step}
use Rattle.run_laws.specs.Prelude.act
use Rattle.run_laws.specs.Prelude.turn

-- a lease names a job that isn't ended
abbrev pub LeasesNameJobs : State → Type 0
LeasesNameJobs s = (n id : ℕ) → IsLeased (leases_of s.book.leases) id n → (u : Unended) × (job_at s.jobs id ≡ Some u)

-- each job has the leases of the servers that it may still change
abbrev pub JobsHaveLeases : State → Type 0
JobsHaveLeases s = All (HasLeases (leases_of s.book.leases)) (map core_of s.jobs)

-- and its turn leaves every server as it is that isn't leased to it
abbrev pub JobsLeaveOthers : State → Type 0
JobsLeaveOthers s = (rows : List Row) (id n : ℕ) → (IsLeased (leases_of s.book.leases) id n → ⊥) → server_at (step rows s (turn.Act (act.Job id))).world n ≡ server_at s.world n

-- a job that goes on after its turn has fewer turns left
abbrev pub JobsLeaveFewerTurns : State → Type 0
JobsLeaveFewerTurns s = (rows : List Row) (id : ℕ) → is_open (step rows s (turn.Act (act.Job id))).jobs id ≡ true → most_turns (step rows s (turn.Act (act.Job id))).jobs id < most_turns s.jobs id
