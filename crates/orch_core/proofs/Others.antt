-- A job's turn leaves the other jobs, and if the job isn't open they are all that is left.
use Rattle.std.proofs.Common.{◌≡◌, ◌∙◌, ℕ, suc, ◌<◌, ◌≤◌, Bool, true, false, cond, List, [], ◌∷◌, length, refl, sym, ap, Option, Some, None, arith, ◌==◌, is_some, not, if◌then◌else◌}
use Rattle.orch_core.proofs.Prelude.{IsState, IsUnended, State, Unended, eq-eqb, false≢true, flown-number, found-number, is_going, is_open, job_at}
use Rattle.orch_core.proofs.Prelude.{jobs_turned, length-filter_both, next_count, number_of, option_map, ready-of, turn_of, turned_at, with_job}
use Rattle.orch_core.proofs.Prelude.{without_job}
use Rattle.orch_core.proofs.Turned.{All-found}

-- a job that goes on takes its place
with-others : (jobs : List Unended) (id : ℕ) (j : Unended) → number_of j ≡ id → without_job (with_job jobs id j) id ≡ without_job jobs id
with-others [] id j same = refl
with-others (x ∷ xs) id j same = go (number_of x == id) refl (with-others xs id j same)
  where
    here : (number_of j == id) ≡ true
    here = eq-eqb (number_of j) id same

    go : (b : Bool) → (number_of x == id) ≡ b → without_job (with_job xs id j) id ≡ without_job xs id → without_job ((if b then j else x) ∷ with_job xs id j) id ≡ cond (not b) (x ∷ without_job xs id) (without_job xs id)
    go true e rest = ap (λ b. cond (not b) (j ∷ without_job (with_job xs id j) id) (without_job (with_job xs id j) id)) here ∙ rest
    go false e rest = ap (λ b. cond (not b) (x ∷ without_job (with_job xs id j) id) (without_job (with_job xs id j) id)) e ∙ ap (λ ys. x ∷ ys) rest

-- a job that is ended is dropped
without-others : (jobs : List Unended) (id : ℕ) → without_job (without_job jobs id) id ≡ without_job jobs id
without-others [] id = refl
without-others (x ∷ xs) id = go (number_of x == id) refl (without-others xs id)
  where
    go : (b : Bool) → (number_of x == id) ≡ b → without_job (without_job xs id) id ≡ without_job xs id → without_job (cond (not b) (x ∷ without_job xs id) (without_job xs id)) id ≡ cond (not b) (x ∷ without_job xs id) (without_job xs id)
    go true e rest = rest
    go false e rest = ap (λ b. cond (not b) (x ∷ without_job (without_job xs id) id) (without_job (without_job xs id) id)) e ∙ ap (λ ys. x ∷ ys) rest

pub turned-others : (s : State) (job : ℕ) → IsState s → without_job (jobs_turned s.jobs job (turned_at s job)) job ≡ without_job s.jobs job
turned-others s job is = go (job_at s.jobs job) refl
  where
    go : (o : Option Unended) → job_at s.jobs job ≡ o → without_job (jobs_turned s.jobs job (option_map (turn_of s) o)) job ≡ without_job s.jobs job
    go None e = refl
    go (Some j) e = by (is_going (turn_of s j).step) refl
      where
        by : (b : Bool) → is_going (turn_of s j).step ≡ b → without_job (if b then with_job s.jobs job (turn_of s j).next else without_job s.jobs job) job ≡ without_job s.jobs job
        by true going =
            let range = All-found (IsUnended (length s.world.servers)) s.jobs job j is.jobs e in
            with-others s.jobs job (turn_of s j).next
            (flown-number (length s.world.servers) s.world s.book (next_count s.reads) (record { 0 = s.moment }) j (ready-of (length s.world.servers) j range) going ∙ found-number s.jobs job j e)
        by false ended = without-others s.jobs job

-- without a job that isn't open all jobs are left
pub closed-others : (jobs : List Unended) (id : ℕ) → is_open jobs id ≡ false → without_job jobs id ≡ jobs
closed-others [] id e = refl
closed-others (x ∷ xs) id e = go (number_of x == id) e (closed-others xs id)
  where
    go : (b : Bool) → is_some (cond b (Some x) (job_at xs id)) ≡ false → (is_some (job_at xs id) ≡ false → without_job xs id ≡ xs) → cond (not b) (x ∷ without_job xs id) (without_job xs id) ≡ x ∷ xs
    go true h rest = absurd (false≢true (sym h))
    go false h rest = ap (λ ys. x ∷ ys) (rest h)

-- without one that is open there are fewer
pub without-less : (jobs : List Unended) (id : ℕ) → is_open jobs id ≡ true → length (without_job jobs id) < length jobs
without-less [] id e = absurd (false≢true e)
without-less (x ∷ xs) id e = go (number_of x == id) e (without-less xs id)
  where
    few : length (without_job xs id) ≤ length xs
    few = let all = length-filter_both (λ (k : Unended). number_of k == id) (λ (k : Unended). not (number_of k == id)) (λ k. refl) xs in omega (arith, all)

    go : (b : Bool) → is_some (cond b (Some x) (job_at xs id)) ≡ true → (is_some (job_at xs id) ≡ true → length (without_job xs id) < length xs) → length (cond (not b) (x ∷ without_job xs id) (without_job xs id)) < suc (length xs)
    go true h rest = omega (arith, few)
    go false h rest = let less = rest h in omega (arith, less)
