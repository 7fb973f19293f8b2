-- What holds of each of a list.
use Rattle.std.proofs.Common.{◌≡◌, ℕ, ◌-◌, Bool, true, false, cond, not, List, [], ◌∷◌, ◌++◌, length, refl, sym, ◌∙◌, ap, Some, zero, suc, ◌==◌, slice_index_or, find}
use Rattle.job_laws.proofs.Prelude.{All, All-cons, All-drop, All-head, All-nil, All-push, All-tail, Bridge, Job, eq-eqb, eqb-true, is_same, job_at}
use Rattle.job_laws.proofs.Prelude.{keep_last, last_item, ne_eqb, replaced, ring_size, with_bridge, without_job}
use Rattle.operations.proofs.OrchBase.Found.{All-found}

-- at a place of the list, or if there is none
pub All-at : {X : Type 0} (P : X → Type 0) (xs : List X) (i : ℕ) (d : X) → P d → All P xs → P (slice_index_or xs i d)
All-at P [] i d none all = none
All-at P (x ∷ xs) zero d none all = All-head P x xs all
All-at P (x ∷ xs) (suc i) d none all = All-at P xs i d none (All-tail P x xs all)

pub All-ring : (P : Bridge → Type 0) (ring : List Bridge) (b : Bridge) → P b → All P ring → All P (with_bridge ring b)
All-ring P ring b one all = go (is_same (last_item ring) b)
  where
    go : (c : Bool) → All P (cond c ring (keep_last ring_size (ring ++ b ∷ [])))
    go true = all
    go false = All-drop P (length (ring ++ b ∷ []) - ring_size) (ring ++ b ∷ []) (All-push P ring b all one)

-- a job in place of the one with its number
pub All-replaced : (P : Job → Type 0) (jobs : List Job) (id : ℕ) (j : Job) → P j → All P jobs → All P (replaced jobs id j)
All-replaced P [] id j one all = All-nil P
All-replaced P (k ∷ ks) id j one all =
    All-cons P (cond (k.id == id) j k) (replaced ks id j) (go (k.id == id)) (All-replaced P ks id j one (All-tail P k ks all))
  where
    go : (b : Bool) → P (cond b j k)
    go true = one
    go false = All-head P k ks all

-- its number is found in the same place
pub found-replaced : (jobs : List Job) (id : ℕ) (j : Job) → j.id ≡ id → (n : ℕ) (k : Job) → job_at jobs n ≡ Some k → (m : Job) × (job_at (replaced jobs id j) n ≡ Some m)
found-replaced [] id j same n k h = cc
found-replaced (x ∷ xs) id j same n k h = go (x.id == n) refl (x.id == id) refl h (found-replaced xs id j same n k)
  where
    go : (b : Bool) → (x.id == n) ≡ b → (c : Bool) → (x.id == id) ≡ c → cond b (Some x) (job_at xs n) ≡ Some k
        → (job_at xs n ≡ Some k → (m : Job) × (job_at (replaced xs id j) n ≡ Some m))
        → (m : Job) × (cond ((cond c j x).id == n) (Some (cond c j x)) (job_at (replaced xs id j) n) ≡ Some m)
    go true e true f h rest =
        let here : (j.id == n) ≡ true = eq-eqb j.id n (same ∙ sym (eqb-true x.id id f) ∙ eqb-true x.id n e) in
        (j, ap (λ b. cond b (Some j) (job_at (replaced xs id j) n)) here)
    go true e false f h rest = (x, ap (λ b. cond b (Some x) (job_at (replaced xs id j) n)) e)
    go false e true f h rest =
        let r = rest h in
        let apart : (j.id == n) ≡ false = ap (λ i. i == n) (same ∙ sym (eqb-true x.id id f)) ∙ e in
        (r.0, ap (λ b. cond b (Some j) (job_at (replaced xs id j) n)) apart ∙ r.1)
    go false e false f h rest = let r = rest h in (r.0, ap (λ b. cond b (Some x) (job_at (replaced xs id j) n)) e ∙ r.1)

pub found-without : (jobs : List Job) (id n : ℕ) (k : Job) → (n ≡ id → ⊥) → job_at jobs n ≡ Some k → job_at (without_job jobs id) n ≡ Some k
found-without [] id n k apart h = cc
found-without (x ∷ xs) id n k apart h = go (x.id == id) refl h (found-without xs id n k apart)
  where
    go : (c : Bool) → (x.id == id) ≡ c → cond (x.id == n) (Some x) (job_at xs n) ≡ Some k → (job_at xs n ≡ Some k → job_at (without_job xs id) n ≡ Some k)
        → job_at (cond (not c) (x ∷ without_job xs id) (without_job xs id)) n ≡ Some k
    go true f h rest =
        rest (sym (ap (λ b. cond b (Some x) (job_at xs n)) (ne_eqb x.id n (λ same. apart (sym same ∙ eqb-true x.id id f)))) ∙ h)
    go false f h rest = at (x.id == n) h
      where
        at : (b : Bool) → cond b (Some x) (job_at xs n) ≡ Some k → cond b (Some x) (job_at (without_job xs id) n) ≡ Some k
        at true h = h
        at false h = rest h

pub All-find : {X : Type 0} (P : X → Type 0) (p : X → Bool) (xs : List X) (y : X) → All P xs → find p xs ≡ Some y → P y
All-find P p = All-found p P
