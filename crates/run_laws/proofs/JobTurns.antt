-- Jobs in the states of runs: they keep to their leases, and leave fewer turns.
use Rattle.std.proofs.Common.{◌≡◌, ◌∙◌, ℕ, ◌<◌, true, List, refl, sym, ap, subst, Option, Some, None, ◌==◌, is_some, map}
use Rattle.run_laws.proofs.Prelude.{All-find, AllMayPass, HeldState, IsLeased, IsReady, Job, Ready, Row, State, Unended, by_job, core-found, core_of}
use Rattle.run_laws.proofs.Prelude.{false≢true, fewer, flight_of, flown-fewer, flown-number, found-number, job_at, job_exchanges, job_turned}
use Rattle.run_laws.proofs.Prelude.{jobs_turned, leases_of, moment_at, most_turns, next_count, number_of, option_map, others-left, run, server_at}
use Rattle.run_laws.proofs.Prelude.{step, turn_of, unleased-run}
use Rattle.run_laws.proofs.Prelude.JobLaws.{job_at as core_at}
use Rattle.run_laws.proofs.Prelude.Jobs.{is_open}
use Rattle.run_laws.proofs.Prelude.act
use Rattle.run_laws.proofs.Prelude.turn
use Rattle.run_laws.proofs.Prelude.unended
use Rattle.run_laws.proofs.Passing.{job-may}

-- ---- leases

-- what a job's turn makes of the servers that aren't leased to it
others-by : (s : State) (id m : ℕ) → HeldState s → (IsLeased (leases_of s.book.leases) id m → ⊥) → (o : Option Unended) → job_at s.jobs id ≡ o → AllMayPass (flight_of s) (by_job s id o)
    → server_at (run s.world (job_exchanges (option_map (turn_of s) o))) m ≡ server_at s.world m
others-by s id m held apart None at may = refl
others-by s id m held apart (Some (unended.Plan j)) at may =
    let found : core_at (map core_of s.jobs) id ≡ Some j = core-found s.jobs id ∙ ap (option_map core_of) at in
    subst (λ (o : Option Job). server_at (job_turned (flight_of s) (next_count s.reads) (moment_at s) id o).world m ≡ server_at s.world m) found
    (others-left (flight_of s) (next_count s.reads) (moment_at s) id m held.flight apart)
others-by s id m held apart (Some (unended.Recovery r entry)) at may =
    unleased-run (leases_of s.book.leases) id s.world (turn_of s (unended.Recovery r entry)).exchanges m may.0.leases.exchanges apart

pub others-stay : (rows : List Row) (s : State) (id m : ℕ) → HeldState s → (IsLeased (leases_of s.book.leases) id m → ⊥) → server_at (step rows s (turn.Act (act.Job id))).world m ≡ server_at s.world m
others-stay rows s id m held apart = others-by s id m held apart (job_at s.jobs id) refl (job-may s id held)

-- a lease names an unended job
pub named-job : (us : List Unended) (id : ℕ) → is_some (core_at (map core_of us) id) ≡ true → (u : Unended) × (job_at us id ≡ Some u)
named-job us id found = go (job_at us id) refl
  where
    go : (o : Option Unended) → job_at us id ≡ o → (u : Unended) × (job_at us id ≡ Some u)
    go None at = absurd (false≢true (sym (ap is_some (core-found us id ∙ ap (option_map core_of) at)) ∙ found))
    go (Some u) at = (u, at)

-- ---- a job that goes on has fewer turns left

pub fewer-left : (count : ℕ) (rows : List Row) (s : State) (id : ℕ) → Ready count s → is_open (step rows s (turn.Act (act.Job id))).jobs id ≡ true → most_turns (step rows s (turn.Act (act.Job id))).jobs id < most_turns s.jobs id
fewer-left count rows s id ready open_ = go (job_at s.jobs id) refl open_
  where
    go : (o : Option Unended) → job_at s.jobs id ≡ o → is_open (jobs_turned s.jobs id (option_map (turn_of s) o)) id ≡ true
        → most_turns (jobs_turned s.jobs id (option_map (turn_of s) o)) id < most_turns s.jobs id
    go None at open_ = absurd (false≢true (sym (ap is_some at) ∙ open_))
    go (Some u) at open_ =
        let is : IsReady count u = All-find (IsReady count) (λ (k : Unended). number_of k == id) s.jobs u ready.jobs at in
        fewer s.jobs id u (turn_of s u) at
        (λ g. (flown-number count s.world s.book (next_count s.reads) (moment_at s) u is g ∙ found-number s.jobs id u at, flown-fewer count s.world s.book (next_count s.reads) (moment_at s) u is g))
