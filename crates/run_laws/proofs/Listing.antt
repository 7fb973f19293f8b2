-- Servers of a list.
use Rattle.std.proofs.Common.{◌≡◌, Bool, true, false, List, [], ◌∷◌, refl, ap, All, ◌||◌, ◌==◌}
use Rattle.run_laws.proofs.Prelude.{All-cons, All-head, All-nil, All-tail, IsListed, ServerNo, eq-eqb, list_any}

-- servers are of their own list, whatever is before it
listed-more : (ns list : List ServerNo) (k : ServerNo) → All (λ n. IsListed list n.0) ns → All (λ n. IsListed (k ∷ list) n.0) ns
listed-more [] list k all = All-nil (λ n. IsListed (k ∷ list) n.0)
listed-more (n ∷ ns) list k all =
    All-cons (λ m. IsListed (k ∷ list) m.0) n ns (go (k.0 == n.0) (All-head (λ m. IsListed list m.0) n ns all)) (listed-more ns list k (All-tail (λ m. IsListed list m.0) n ns all))
  where
    go : (b : Bool) → IsListed list n.0 → (b || list_any (λ m. m.0 == n.0) list) ≡ true
    go true h = refl
    go false h = h

listed-self : (ns : List ServerNo) → All (λ n. IsListed ns n.0) ns
listed-self [] = All-nil (λ n. IsListed [] n.0)
listed-self (n ∷ ns) = All-cons (λ m. IsListed (n ∷ ns) m.0) n ns (ap (λ (b : Bool). b || list_any (λ m. m.0 == n.0) ns) (eq-eqb n.0 n.0 refl)) (listed-more ns ns n (listed-self ns))

pub listed-behind : (k : ServerNo) (ns : List ServerNo) → All (λ n. IsListed (k ∷ ns) n.0) ns
listed-behind k ns = listed-more ns ns k (listed-self ns)
