-- Unended jobs: how one is found, what its turn leaves of the jobs and the book, and what it answers.
use Rattle.std.specs.Prelude.{ℕ, ◌+◌, ◌≤◌, ◌<◌, ◌==◌, Bool, not, is_some, if◌then◌else◌, List, [], ◌∷◌, find, filter, map, Option, Some, None}
use Rattle.unended_jobs.specs.Prelude.{BookState, Exchange, JobStep, Observation, after_store, is_going, option_map}
use Rattle.std.specs.Option.{option_and_then}
use Rattle.recovery_plans.specs.OrchBase.Memory.{next_count}
use Rattle.recovery_plans.specs.InstanceKeeper.Leases.{given_back}
use Rattle.unended_jobs.specs.declared.unended.Unended.{Unended}
use Rattle.unended_jobs.specs.declared.look.UnendedLook.{UnendedLook}
use Rattle.unended_jobs.specs.Looks.{foretold}
use Rattle.unended_jobs.specs.Unended.{Flown, number_of, turns_of}
use Rattle.recovery_plans.specs.Operations.declared.step.JobStep.TheVariants as step
use Rattle.turns.specs.declared.reply.Reply.{Reply}
use Rattle.turns.specs.declared.reply.Reply.TheVariants as answered

-- the numbers of jobs rise, above the first number and up to the last
abbrev pub Rise : ℕ → List Unended → ℕ → Type 0
Rise low [] high = low ≤ high
Rise low (j ∷ jobs) high = (low < number_of j) × Rise (number_of j) jobs high

-- the unended job of a number
abbrev pub job_at : List Unended → ℕ → Option Unended
job_at jobs id = find (λ j. number_of j == id) jobs

abbrev pub is_open : List Unended → ℕ → Bool
is_open jobs id = is_some (job_at jobs id)

-- a job in place of the one with its number
abbrev pub with_job : List Unended → ℕ → Unended → List Unended
with_job jobs id j = map (λ k. if number_of k == id then j else k) jobs

abbrev pub without_job : List Unended → ℕ → List Unended
without_job jobs id = filter (λ k. not (number_of k == id)) jobs

-- how many turns the job of a number takes at most: those that it has left, and one in which it ends
abbrev pub most_turns_by : Option Unended → ℕ
most_turns_by None = 0
most_turns_by (Some j) = turns_of j + 1

abbrev pub most_turns : List Unended → ℕ → ℕ
most_turns jobs id = most_turns_by (job_at jobs id)

-- ---- the turn that was looked up for a job

-- none if there is no such job
abbrev pub turn_by : List Unended → ℕ → UnendedLook → Option Flown
turn_by jobs id look = option_map (λ j. foretold j look) (job_at jobs id)

-- ---- what is left after it

abbrev pub job_exchanges : Option Flown → List Exchange
job_exchanges None = []
job_exchanges (Some t) = t.exchanges

abbrev pub job_observation : Option Flown → Option Observation
job_observation t = option_and_then (λ turned. turned.observation) t

-- a reading takes the next read number
abbrev pub reads_with : ℕ → Option Observation → ℕ
reads_with reads o = if is_some o then next_count reads else reads

-- a reading is stored by the rule of stored readings
abbrev pub stored : BookState → Option Observation → BookState
stored b None = b
stored b (Some o) = after_store b o

-- the leases of a job that is ended are free
abbrev pub without_leases : BookState → ℕ → BookState
without_leases b id = record b { leases = given_back b.leases id }

abbrev pub book_turned : BookState → ℕ → Option Flown → BookState
book_turned b id None = b
book_turned b id (Some t) = if is_going t.step then stored b t.observation else without_leases (stored b t.observation) id

-- a job that goes on takes its place, and one that is ended is dropped
abbrev pub jobs_turned : List Unended → ℕ → Option Flown → List Unended
jobs_turned jobs id None = jobs
jobs_turned jobs id (Some t) = if is_going t.step then with_job jobs id t.next else without_job jobs id

-- ---- what it answers

-- whether a job goes on, is done with its lines, or failed for a cause
abbrev pub step_reply : JobStep → Reply
step_reply step.Going = answered.Going
step_reply (step.Done lines) = answered.Told lines
step_reply (step.Failed cause lines) = answered.Failed (record { cause = cause; lines = lines })

abbrev pub job_reply : Option Flown → Reply
job_reply None = answered.NoJob
job_reply (Some t) = step_reply t.step
