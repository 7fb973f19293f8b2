-- Leases by the servers' numbers are leases as the laws have them.
use Rattle.std.proofs.Common.{◌≡◌, ℕ, ◌<◌, Bool, true, false, cond, List, [], ◌∷◌, length, refl, sym, ◌∙◌, ap, subst, Option, Some, None, zero, suc, ◌||◌, ◌==◌, slice_index_or, slice_set}
use Rattle.job_laws.proofs.Prelude.{All, All-head, All-tail, ServerNo, eq-eqb, eqb-true, false≢true, get_or-set_other, get_or-set_same, given_back}
use Rattle.job_laws.proofs.Prelude.{leased_to, leases_of, length-set, list_any, taken, without_leases}

at-set : (xs : List (Option ℕ)) (i n : ℕ) (v : Option ℕ) → i < length xs → slice_index_or (slice_set xs i v) n None ≡ cond (i == n) v (slice_index_or xs n None)
at-set xs i n v within = go (i == n) refl
  where
    go : (b : Bool) → (i == n) ≡ b → slice_index_or (slice_set xs i v) n None ≡ cond b v (slice_index_or xs n None)
    go true e = ap (λ k. slice_index_or (slice_set xs i v) k None) (sym (eqb-true i n e)) ∙ get_or-set_same xs i v None within
    go false e = get_or-set_other xs i n v None (λ same. false≢true (sym e ∙ eq-eqb i n (sym same)))

joined : (a b : Bool) (x y : Option ℕ) → cond b x (cond a x y) ≡ cond (a || b) x y
joined true true x y = refl
joined true false x y = refl
joined false b x y = refl

there-set : (xs : List (Option ℕ)) (i : ℕ) (v : Option ℕ) (list : List ServerNo) → All (λ k. k.0 < length xs) list → All (λ k. k.0 < length (slice_set xs i v)) list
there-set xs i v list h = subst (λ (n : ℕ). All (λ k. k.0 < n) list) (sym (length-set xs i v)) h

taken-at : (list : List ServerNo) (xs : List (Option ℕ)) (id n : ℕ) → All (λ k. k.0 < length xs) list → leases_of (taken xs list id) n ≡ leased_to (leases_of xs) list id n
taken-at [] xs id n there = refl
taken-at (k ∷ ks) xs id n there =
    taken-at ks (slice_set xs k.0 (Some id)) id n (there-set xs k.0 (Some id) ks (All-tail (λ (m : ServerNo). m.0 < length xs) k ks there))
    ∙ ap (λ o. cond (list_any (λ (m : ServerNo). m.0 == n) ks) (Some id) o) (at-set xs k.0 n (Some id) (All-head (λ (m : ServerNo). m.0 < length xs) k ks there))
    ∙ joined (k.0 == n) (list_any (λ (m : ServerNo). m.0 == n) ks) (Some id) (leases_of xs n)

pub taken-leases : (xs : List (Option ℕ)) (list : List ServerNo) (id : ℕ) → All (λ k. k.0 < length xs) list → leases_of (taken xs list id) ≡ leased_to (leases_of xs) list id
taken-leases xs list id there = λ i n. taken-at list xs id n there i

given-at : (xs : List (Option ℕ)) (id n : ℕ) → leases_of (given_back xs id) n ≡ without_leases (leases_of xs) id n
given-at [] id n = refl
given-at (x ∷ xs) id zero = refl
given-at (x ∷ xs) id (suc n) = given-at xs id n

pub given-leases : (xs : List (Option ℕ)) (id : ℕ) → leases_of (given_back xs id) ≡ without_leases (leases_of xs) id
given-leases xs id = λ i n. given-at xs id n i
