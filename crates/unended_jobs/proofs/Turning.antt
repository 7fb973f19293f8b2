-- A job's turn: the place of a job, and what becomes of the jobs and the book.
use Rattle.std.proofs.Common.{◌≡◌, ◌≢◌, ◌∙◌, ℕ, ◌<◌, ◌≤◌, Bool, true, false, List, length, get_or, refl, sym, ap, Some, None, ltb, arith, slice_get, slice_set, if◌then◌else◌}
use Rattle.unended_jobs.proofs.Prelude.{BookState, JobStep, Unended, UnendedLook, foretold, is_going, ltb-false, ltb-true, number_of, observation_of}
use Rattle.unended_jobs.proofs.Prelude.{option_map, remove, same_Some, slice_get-get_or, step_of}
use Rattle.std.specs.List.Sorted.{IsNonDecreasingBy, IsPartitionPoint}
use Rattle.unended_jobs.proofs.Looking.{foretold-observation, foretold-step}
use Rattle.unended_jobs.specs.Jobs.{Rise, book_turned, job_at, jobs_turned, stored, turn_by, with_job, without_job, without_leases}
use Rattle.unended_jobs.proofs.Numbers.{found-at, found-number, mono, none-at, remove-without, set-with}

-- ---- by halves

pub rises : (jobs : List Unended) (high : ℕ) → Rise 0 jobs high → IsNonDecreasingBy (λ (j : Unended). number_of j) jobs
rises jobs high r i k d before within = go (ltb i k) refl
  where
    go : (b : Bool) → ltb i k ≡ b → number_of (get_or jobs i d) ≤ number_of (get_or jobs k d)
    go true e = let less = mono 0 jobs high i k d r (ltb-true i k e) within in omega (arith, less)
    go false e =
        let past = ltb-false i k e in
        let same : i ≡ k = omega (arith, before, past) in
        let both = ap (λ n. number_of (get_or jobs n d)) same in
        omega (arith, both)

module _ (jobs : List Unended) (high id at : ℕ) (rise : Rise 0 jobs high) (point : IsPartitionPoint (λ (j : Unended). ltb (number_of j) id ≡ true) (λ (j : Unended). ltb (number_of j) id ≡ false) jobs at) where
  -- the job at the place has the number
  pub found-there : (j : Unended) → at < length jobs → j ≡ get_or jobs at j → number_of j ≡ id → (at < length jobs) × (job_at jobs id ≡ slice_get jobs at)
  found-there j within item same = (within, found-at 0 jobs high id at j rise within (ap (λ (x : Unended). number_of x) (sym item) ∙ same))

  -- each has another number, if that at the place, if there is one, has
  pub none-there : ((d : Unended) → at < length jobs → number_of (get_or jobs at d) ≢ id) → job_at jobs id ≡ None
  none-there other = none-at jobs id each
    where
      each : (k : ℕ) (d : Unended) → k < length jobs → number_of (get_or jobs k d) ≢ id
      each k d within same = by (ltb k at) refl (ltb at k) refl
        where
          by : (b : Bool) → ltb k at ≡ b → (c : Bool) → ltb at k ≡ c → ⊥
          by true e c f =
              let less = ltb-true (number_of (get_or jobs k d)) id (point.0 k d (omega arith) (ltb-true k at e)) in
              omega (arith, less, same)
          by false e true f =
              let past = ltb-false (number_of (get_or jobs at d)) id (point.1 at d (omega arith) (let h = ltb-true at k f in omega (arith, h, within))) in
              let more = mono 0 jobs high at k d rise (ltb-true at k f) within in
              omega (arith, past, more, same)
          by false e false f =
              let low = ltb-false k at e in
              let high = ltb-false at k f in
              let here : k ≡ at = omega (arith, low, high) in
              let there : at < length jobs = omega (arith, here, within) in
              other d there (ap (λ n. number_of (get_or jobs n d)) (sym here) ∙ same)

-- the job at a place, whatever the default past the end is
pub item-any : (jobs : List Unended) (at : ℕ) (j d : Unended) → at < length jobs → j ≡ get_or jobs at j → get_or jobs at d ≡ j
item-any jobs at j d within item = same_Some (get_or jobs at d) j (sym (slice_get-get_or jobs at d within) ∙ slice_get-get_or jobs at j within ∙ ap (λ (x : Unended). Some x) (sym item))

-- ---- after it

module _ (jobs : List Unended) (high id at : ℕ) (j : Unended) (look : UnendedLook) (rise : Rise 0 jobs high) (within : at < length jobs) (found : job_at jobs id ≡ slice_get jobs at) (item : j ≡ get_or jobs at j) where
  pub found-here : job_at jobs id ≡ Some j
  found-here = found ∙ slice_get-get_or jobs at j within ∙ ap (λ (x : Unended). Some x) (sym item)

  number : number_of (get_or jobs at j) ≡ id
  number = ap (λ (x : Unended). number_of x) (sym item) ∙ found-number jobs id j found-here

  pub turn-here : turn_by jobs id look ≡ Some (foretold j look)
  turn-here = ap (option_map (λ (x : Unended). foretold x look)) found-here

  pub jobs-after : (step : JobStep) (js js' : List Unended) (k : Unended) (b b' : BookState) → step ≡ step_of look → js ≡ slice_set jobs at k → k ≡ (foretold j look).next
      → (is_going step ≡ true → (js' ≡ js) × (b' ≡ b)) → (is_going step ≡ false → (js' ≡ remove js at) × (b' ≡ without_leases b id))
      → js' ≡ jobs_turned jobs id (turn_by jobs id look)
  jobs-after step js js' k b b' same set taken going ended = go (is_going (foretold j look).step) refl ∙ sym (ap (jobs_turned jobs id) turn-here)
    where
      told : step ≡ (foretold j look).step
      told = same ∙ sym (foretold-step j look)

      go : (g : Bool) → is_going (foretold j look).step ≡ g → js' ≡ (if is_going (foretold j look).step then with_job jobs id (foretold j look).next else without_job jobs id)
      go true e =
          (going (ap is_going told ∙ e)).0 ∙ set ∙ ap (slice_set jobs at) taken ∙ set-with 0 jobs high id at (foretold j look).next j rise within number
          ∙ sym (ap (λ g. if g then with_job jobs id (foretold j look).next else without_job jobs id) e)
      go false e =
          (ended (ap is_going told ∙ e)).0 ∙ ap (λ (xs : List Unended). remove xs at) set ∙ remove-without 0 jobs high id at k j rise within number
          ∙ sym (ap (λ g. if g then with_job jobs id (foretold j look).next else without_job jobs id) e)

  pub book-after : (step : JobStep) (js js' : List Unended) (b b' old : BookState) → step ≡ step_of look → b ≡ stored old (observation_of look)
      → (is_going step ≡ true → (js' ≡ js) × (b' ≡ b)) → (is_going step ≡ false → (js' ≡ remove js at) × (b' ≡ without_leases b id))
      → b' ≡ book_turned old id (turn_by jobs id look)
  book-after step js js' b b' old same stores going ended = go (is_going (foretold j look).step) refl ∙ sym (ap (book_turned old id) turn-here)
    where
      told : step ≡ (foretold j look).step
      told = same ∙ sym (foretold-step j look)

      kept : b ≡ stored old (foretold j look).observation
      kept = stores ∙ ap (stored old) (sym (foretold-observation j look))

      go : (g : Bool) → is_going (foretold j look).step ≡ g
          → b' ≡ (if is_going (foretold j look).step then stored old (foretold j look).observation else without_leases (stored old (foretold j look).observation) id)
      go true e =
          (going (ap is_going told ∙ e)).1 ∙ kept
          ∙ sym (ap (λ g. if g then stored old (foretold j look).observation else without_leases (stored old (foretold j look).observation) id) e)
      go false e =
          (ended (ap is_going told ∙ e)).1 ∙ ap (λ (x : BookState). without_leases x id) kept
          ∙ sym (ap (λ g. if g then stored old (foretold j look).observation else without_leases (stored old (foretold j look).observation) id) e)
