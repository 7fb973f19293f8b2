-- If nothing is first, each is nothing.
use Rattle.recovery_core.proofs.PermissionProofs.Free.{free-by}
pub use Rattle.recovery_core.proofs.PermissionProofs.Free.{neither}
pub use Rattle.recovery_core.proofs.PermissionProofs.Rows.{about-permitted, both-permitted}
pub use Rattle.std.proofs.lemmas.Bool.{not-false}
use Rattle.std.proofs.Common.{◌≡◌, ℕ, Bool, true, false, not, List, [], ◌∷◌, refl, sym, ◌∙◌, ap, Option, Some, None, ◌||◌, ◌==◌, is_some, slice_index_or}
use Rattle.move_laws.proofs.Prelude.{BookState, ServerNo, busy, eqb-true, false≢true, first_about, first_of, lease_at, list_any, only_if}

-- each of a list is nothing
abbrev pub Nothing : {A : Type 0} → List (Option A) → Type 0
Nothing [] = Unit {0}
Nothing (x ∷ xs) = (x ≡ None) × Nothing xs

-- if nothing refuses, each check passes
pub each-none : {A : Type 0} (xs : List (Option A)) → first_of xs ≡ None → Nothing xs
each-none [] h = tt
each-none (x ∷ xs) h = let parts = neither x (first_of xs) h in (parts.0, each-none xs parts.1)

-- a test whose answer is nothing is false
pub test-false : {A : Type 0} (b : Bool) (x : A) → only_if b x ≡ None → b ≡ false
test-false true x h = cc
test-false false x h = refl

pub there-is : {A : Type 0} (o : Option A) → is_some o ≡ true → (x : A) × (o ≡ Some x)
there-is None h = absurd (false≢true h)
there-is (Some x) h = (x, refl)

-- what a check asks for is there
pub given-by : {A B : Type 0} (o : Option A) (x : B) → only_if (not (is_some o)) x ≡ None → (a : A) × (o ≡ Some a)
given-by o x h = there-is o (not-false (is_some o) (test-false (not (is_some o)) x h))

-- nobody has a lease of a server of a list that isn't busy
pub free-of : (b : BookState) (list : List ServerNo) → first_about (busy b) list ≡ None → (n : ℕ) → list_any (λ (k : ServerNo). k.0 == n) list ≡ true
    → slice_index_or b.leases n None ≡ None
free-of b [] h n is = absurd (false≢true is)
free-of b (k ∷ ks) h n is =
    let parts = neither (busy b k) (first_about (busy b) ks) h in
    go (k.0 == n) refl is (free-by k (lease_at b k) parts.0) (free-of b ks parts.1 n)
  where
    go : (c : Bool) → (k.0 == n) ≡ c → (c || list_any (λ (m : ServerNo). m.0 == n) ks) ≡ true → lease_at b k ≡ None
        → (list_any (λ (m : ServerNo). m.0 == n) ks ≡ true → slice_index_or b.leases n None ≡ None) → slice_index_or b.leases n None ≡ None
    go true e is here rest = ap (λ m. slice_index_or b.leases m None) (sym (eqb-true k.0 n e)) ∙ here
    go false e is here rest = rest is
