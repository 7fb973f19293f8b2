-- The jobs of a `Flight` are the cores of unended jobs.
use Rattle.std.proofs.Common.{◌≡◌, ℕ, Bool, true, false, List, [], ◌∷◌, ◌++◌, refl, ap, Some, map, not, if◌then◌else◌, ◌==◌}
use Rattle.unended_laws.proofs.Prelude.{Job, Unended, core_of, job_at as core_at, number_of, option_map, replaced, with_job}
use Rattle.unended_laws.proofs.Prelude.{without_job as without_core}
use Rattle.unended_laws.proofs.Prelude.Jobs.{job_at, without_job}

pub cores-replaced : (js : List Unended) (id : ℕ) (u : Unended) → map core_of (with_job js id u) ≡ replaced (map core_of js) id (core_of u)
cores-replaced [] id u = refl
cores-replaced (k ∷ ks) id u = go (number_of k == id) (cores-replaced ks id u)
  where
    go : (same : Bool) → map core_of (with_job ks id u) ≡ replaced (map core_of ks) id (core_of u)
        → core_of (if same then u else k) ∷ map core_of (with_job ks id u) ≡ (if same then core_of u else core_of k) ∷ replaced (map core_of ks) id (core_of u)
    go true rest = ap (λ (xs : List Job). core_of u ∷ xs) rest
    go false rest = ap (λ (xs : List Job). core_of k ∷ xs) rest

pub cores-without : (js : List Unended) (id : ℕ) → map core_of (without_job js id) ≡ without_core (map core_of js) id
cores-without [] id = refl
cores-without (k ∷ ks) id = go (number_of k == id) (cores-without ks id)
  where
    go : (same : Bool) → map core_of (without_job ks id) ≡ without_core (map core_of ks) id
        → map core_of (if not same then k ∷ without_job ks id else without_job ks id) ≡ (if not same then core_of k ∷ without_core (map core_of ks) id else without_core (map core_of ks) id)
    go true rest = rest
    go false rest = ap (λ (xs : List Job). core_of k ∷ xs) rest

pub cores-joined : (js : List Unended) (u : Unended) → map core_of (js ++ u ∷ []) ≡ map core_of js ++ core_of u ∷ []
cores-joined [] u = refl
cores-joined (k ∷ ks) u = ap (λ (xs : List Job). core_of k ∷ xs) (cores-joined ks u)

pub core-found : (js : List Unended) (id : ℕ) → core_at (map core_of js) id ≡ option_map core_of (job_at js id)
core-found [] id = refl
core-found (k ∷ ks) id = go (number_of k == id) (core-found ks id)
  where
    go : (same : Bool) → core_at (map core_of ks) id ≡ option_map core_of (job_at ks id)
        → (if same then Some (core_of k) else core_at (map core_of ks) id) ≡ option_map core_of (if same then Some k else job_at ks id)
    go true rest = refl
    go false rest = rest
