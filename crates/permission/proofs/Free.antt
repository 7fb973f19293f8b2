-- If no server of a list is busy, none has a lease.
use Rattle.std.proofs.Common.{◌≡◌, ℕ, List, [], ◌∷◌, refl, ◌∙◌, ap, Option, Some, None}
use Rattle.permission.proofs.Prelude.{BookState, ServerNo, busy, busy_by as refused_by_lease, first_about, first_busy, lease_at, option_or}
use Rattle.permission.proofs.Prelude.Leases.{busy_by}

pub neither : {A : Type 0} (x y : Option A) → option_or x y ≡ None → (x ≡ None) × (y ≡ None)
neither None y h = (refl, h)
neither (Some a) y h = cc

pub free-by : (k : ServerNo) (o : Option ℕ) → refused_by_lease k o ≡ None → o ≡ None
free-by k None h = refl
free-by k (Some job) h = cc

pub free-list : (b : BookState) (list : List ServerNo) → first_about (busy b) list ≡ None → first_busy b.leases list ≡ None
free-list b [] h = refl
free-list b (k ∷ ks) h =
    let parts = neither (busy b k) (first_about (busy b) ks) h in
    ap (λ (o : Option ℕ). busy_by k o (first_busy b.leases ks)) (free-by k (lease_at b k) parts.0) ∙ free-list b ks parts.1
