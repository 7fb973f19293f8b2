-- Jobs by rising number: how one is found, and what becomes of it.
use Rattle.std.proofs.Common.{◌≡◌, ◌≢◌, ◌∙◌, ℕ, zero, suc, ◌<◌, ◌≤◌, Bool, true, false, cond, List, [], ◌∷◌, ◌++◌, length, get_or, refl, sym, ap, subst, Some, None, arith, ◌==◌, not, slice_get, slice_set, if◌then◌else◌}
use Rattle.unended_jobs.proofs.Prelude.{Unended, eq-eqb, eqb-true, number_of, remove}
use Rattle.unended_jobs.specs.Jobs.{Rise, job_at, with_job, without_job}

-- ---- numbers rise

-- a lower first number
pub Rise-from : (low low' : ℕ) (jobs : List Unended) (high : ℕ) → low' ≤ low → Rise low jobs high → Rise low' jobs high
Rise-from low low' [] high h r = omega (arith, h, r)
Rise-from low low' (j ∷ js) high h r = let first = r.0 in (omega (arith, h, first), r.1)

pub Rise-within : (low : ℕ) (jobs : List Unended) (high : ℕ) → Rise low jobs high → low ≤ high
Rise-within low [] high r = r
Rise-within low (j ∷ js) high r = let rest = Rise-within (number_of j) js high r.1 in let first = r.0 in omega (arith, first, rest)

-- one more job with the next number
pub Rise-push : (low : ℕ) (jobs : List Unended) (high : ℕ) (j : Unended) → high < number_of j → Rise low jobs high → Rise low (jobs ++ j ∷ []) (number_of j)
Rise-push low [] high j h r = let most : low ≤ high = r in let self : number_of j ≤ number_of j = omega arith in (omega (arith, most, h), self)
Rise-push low (k ∷ ks) high j h r = (r.0, Rise-push (number_of k) ks high j h r.1)

pub above : (low : ℕ) (jobs : List Unended) (high : ℕ) (k : ℕ) (d : Unended) → Rise low jobs high → k < length jobs → low < number_of (get_or jobs k d)
above low [] high k d r h = absurd (omega (arith, h))
above low (j ∷ js) high zero d r h = r.0
above low (j ∷ js) high (suc k) d r h =
    let rest = above (number_of j) js high k d r.1 (omega (arith, h)) in
    let first = r.0 in
    omega (arith, first, rest)

pub mono : (low : ℕ) (jobs : List Unended) (high : ℕ) (i k : ℕ) (d : Unended) → Rise low jobs high → i < k → k < length jobs → number_of (get_or jobs i d) < number_of (get_or jobs k d)
mono low [] high i k d r h within = absurd (omega (arith, within))
mono low (j ∷ js) high zero zero d r h within = absurd (omega (arith, h))
mono low (j ∷ js) high zero (suc k) d r h within = above (number_of j) js high k d r.1 (omega (arith, within))
mono low (j ∷ js) high (suc i) zero d r h within = absurd (omega (arith, h))
mono low (j ∷ js) high (suc i) (suc k) d r h within = mono (number_of j) js high i k d r.1 (omega (arith, h)) (omega (arith, within))

-- ---- a job is found

apart : (m n : ℕ) → n < m → (m == n) ≡ false
apart m n h = grind arith

-- if no job has the number
pub none-at : (jobs : List Unended) (id : ℕ) → ((k : ℕ) (d : Unended) → k < length jobs → number_of (get_or jobs k d) ≢ id) → job_at jobs id ≡ None
none-at [] id none = refl
none-at (j ∷ js) id none = go (number_of j == id) refl (none-at js id (λ k d h. none (suc k) d (omega (arith, h))))
  where
    go : (b : Bool) → (number_of j == id) ≡ b → job_at js id ≡ None → cond b (Some j) (job_at js id) ≡ None
    go true e rest = absurd (none 0 j (omega arith) (eqb-true (number_of j) id e))
    go false e rest = rest

-- if the job at a place has it
pub found-at : (low : ℕ) (jobs : List Unended) (high id at : ℕ) (d : Unended) → Rise low jobs high → at < length jobs → number_of (get_or jobs at d) ≡ id → job_at jobs id ≡ slice_get jobs at
found-at low [] high id at d r h e = absurd (omega (arith, h))
found-at low (j ∷ js) high id zero d r h e = ap (λ b. cond b (Some j) (job_at js id)) (eq-eqb (number_of j) id e)
found-at low (j ∷ js) high id (suc at) d r h e =
    let later = above (number_of j) js high at d r.1 (omega (arith, h)) in
    let differs : (number_of j == id) ≡ false = first-differs (number_of j) (number_of (get_or js at d)) id later e in
    ap (λ b. cond b (Some j) (job_at js id)) differs ∙ found-at (number_of j) js high id at d r.1 (omega (arith, h)) e
  where
    first-differs : (a b c : ℕ) → a < b → b ≡ c → (a == c) ≡ false
    first-differs a b c h e = grind arith

-- a job that is found has the number
pub found-number : (jobs : List Unended) (id : ℕ) (j : Unended) → job_at jobs id ≡ Some j → number_of j ≡ id
found-number [] id j h = cc
found-number (k ∷ ks) id j h = go (number_of k == id) refl h (found-number ks id j)
  where
    go : (b : Bool) → (number_of k == id) ≡ b → cond b (Some k) (job_at ks id) ≡ Some j → (job_at ks id ≡ Some j → number_of j ≡ id) → number_of j ≡ id
    go true e h rest = let same : k ≡ j = cc in ap (λ (x : Unended). number_of x) (sym same) ∙ eqb-true (number_of k) id e
    go false e h rest = rest h

-- ---- a job in place of another, and without one

-- past the number nothing changes
pub with-past : (low : ℕ) (jobs : List Unended) (high id : ℕ) (j : Unended) → id ≤ low → Rise low jobs high → with_job jobs id j ≡ jobs
with-past low [] high id j h r = refl
with-past low (k ∷ ks) high id j h r =
    let first = r.0 in
    let differs : (number_of k == id) ≡ false = apart (number_of k) id (omega (arith, h, first)) in
    ap (λ b. (if b then j else k) ∷ with_job ks id j) differs ∙ ap (λ (xs : List Unended). k ∷ xs) (with-past (number_of k) ks high id j (omega (arith, h, first)) r.1)

pub without-past : (low : ℕ) (jobs : List Unended) (high id : ℕ) → id ≤ low → Rise low jobs high → without_job jobs id ≡ jobs
without-past low [] high id h r = refl
without-past low (k ∷ ks) high id h r =
    let first = r.0 in
    let differs : (number_of k == id) ≡ false = apart (number_of k) id (omega (arith, h, first)) in
    ap (λ b. cond (not b) (k ∷ without_job ks id) (without_job ks id)) differs ∙ ap (λ (xs : List Unended). k ∷ xs) (without-past (number_of k) ks high id (omega (arith, h, first)) r.1)

pub set-with : (low : ℕ) (jobs : List Unended) (high id at : ℕ) (j d : Unended) → Rise low jobs high → at < length jobs → number_of (get_or jobs at d) ≡ id → slice_set jobs at j ≡ with_job jobs id j
set-with low [] high id at j d r h e = absurd (omega (arith, h))
set-with low (k ∷ ks) high id zero j d r h e =
    sym
    (ap (λ b. (if b then j else k) ∷ with_job ks id j) (eq-eqb (number_of k) id e)
    ∙ ap (λ (xs : List Unended). j ∷ xs) (with-past (number_of k) ks high id j (omega (arith, e)) r.1))
set-with low (k ∷ ks) high id (suc at) j d r h e =
    let later = above (number_of k) ks high at d r.1 (omega (arith, h)) in
    let differs : (number_of k == id) ≡ false = below-differs (number_of k) (number_of (get_or ks at d)) id later e in
    ap (λ (xs : List Unended). k ∷ xs) (set-with (number_of k) ks high id at j d r.1 (omega (arith, h)) e)
    ∙ sym (ap (λ b. (if b then j else k) ∷ with_job ks id j) differs)
  where
    below-differs : (a b c : ℕ) → a < b → b ≡ c → (a == c) ≡ false
    below-differs a b c h e = grind arith

pub remove-without : (low : ℕ) (jobs : List Unended) (high id at : ℕ) (j d : Unended) → Rise low jobs high → at < length jobs → number_of (get_or jobs at d) ≡ id
    → remove (slice_set jobs at j) at ≡ without_job jobs id
remove-without low [] high id at j d r h e = absurd (omega (arith, h))
remove-without low (k ∷ ks) high id zero j d r h e =
    sym
    (ap (λ b. cond (not b) (k ∷ without_job ks id) (without_job ks id)) (eq-eqb (number_of k) id e)
    ∙ without-past (number_of k) ks high id (omega (arith, e)) r.1)
remove-without low (k ∷ ks) high id (suc at) j d r h e =
    let later = above (number_of k) ks high at d r.1 (omega (arith, h)) in
    let differs : (number_of k == id) ≡ false = below-differs (number_of k) (number_of (get_or ks at d)) id later e in
    ap (λ (xs : List Unended). k ∷ xs) (remove-without (number_of k) ks high id at j d r.1 (omega (arith, h)) e)
    ∙ sym (ap (λ b. cond (not b) (k ∷ without_job ks id) (without_job ks id)) differs)
  where
    below-differs : (a b c : ℕ) → a < b → b ≡ c → (a == c) ≡ false
    below-differs a b c h e = grind arith

-- both keep numbers rising

pub Rise-with : (low : ℕ) (jobs : List Unended) (high id : ℕ) (j : Unended) → number_of j ≡ id → Rise low jobs high → Rise low (with_job jobs id j) high
Rise-with low [] high id j e r = r
Rise-with low (k ∷ ks) high id j e r = go (number_of k == id) refl (Rise-with (number_of k) ks high id j e r.1)
  where
    go : (b : Bool) → (number_of k == id) ≡ b → Rise (number_of k) (with_job ks id j) high → Rise low ((if b then j else k) ∷ with_job ks id j) high
    go true is rest =
        let same : number_of k ≡ number_of j = eqb-true (number_of k) id is ∙ sym e in
        (subst (λ n. low < n) same r.0, subst (λ n. Rise n (with_job ks id j) high) same rest)
    go false is rest = (r.0, rest)

pub Rise-without : (low : ℕ) (jobs : List Unended) (high id : ℕ) → Rise low jobs high → Rise low (without_job jobs id) high
Rise-without low [] high id r = r
Rise-without low (k ∷ ks) high id r = go (number_of k == id) (Rise-without (number_of k) ks high id r.1)
  where
    go : (b : Bool) → Rise (number_of k) (without_job ks id) high → Rise low (cond (not b) (k ∷ without_job ks id) (without_job ks id)) high
    go true rest = let first = r.0 in Rise-from (number_of k) low (without_job ks id) high (omega (arith, first)) rest
    go false rest = (r.0, rest)
