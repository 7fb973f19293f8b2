-- A command that isn't refused begins a job over servers that are there and free.
use Rattle.std.proofs.Common.{◌≡◌, ℕ, ◌<◌, ◌^◌, true, length, refl, Option, None, Some}
use Rattle.orch_core.proofs.Prelude.{BookState, Command, IsBook, IsUnended, MayTake, Means, Moment, Planner, ServerNo, World, entry_id, is_within}
use Rattle.orch_core.proofs.Prelude.{job-unended, job_by, job_in, leases-free, leases-within, leases_by, means_of, refusal_by, regroup_about}

module _ (w : World) (b : BookState) (now : Moment) (every : ℕ) (given : Command) (p : Planner) (is : IsBook b) (i_there : is_within (length b.names) given.i ≡ true) (d_there : is_within (length b.names) given.d ≡ true) where
  -- a command that isn't refused may take its leases
  pub may-take : refusal_by w b now every given p ≡ None → MayTake b (leases_by w b given p)
  may-take h = record { known = leases-within w b given is i_there d_there p; free = leases-free w b now every given p h }

  -- and its job is one that may be turned
  pub begun-unended : (id wait : ℕ) → id < 2 ^ 64 → wait < 2 ^ 32 → IsUnended (length b.names) (job_by w b given p id wait every)
  begun-unended id wait id_fits wait_fits = job-unended w b given is i_there d_there p id wait every id_fits wait_fits

-- a plan has no entry, and neither has a regroup
regroup-entry : (b : BookState) (by : Means) (id wait : ℕ) (i : Option ServerNo) → entry_id (regroup_about b by id wait i) ≡ None
regroup-entry b by id wait None = refl
regroup-entry b by id wait (Some i) = refl

pub job-entry : (w : World) (b : BookState) (given : Command) (p : Planner) (id wait every : ℕ) → entry_id (job_by w b given p id wait every) ≡ None
job-entry w b given p id wait every = go (means_of every p)
  where
    go : (by : Option Means) → entry_id (job_in w b given p id wait every by) ≡ None
    go None = refl
    go (Some by) = regroup-entry b by id wait given.i
