-- Chains of sources: their ends, and when one comes to a server.
use Rattle.std.proofs.Common.{◌≡◌, ℕ, ◌<◌, ◌≤◌, true, false, List, [], ◌∷◌, length, refl, sym, ◌∙◌, ap, subst, inl, inr, Option, Some, None, arith, zero, suc, ◌||◌, eqb, ◌==◌}
use Rattle.replication_laws.proofs.Prelude.{Grounded, Here, IsDistinct, Placed, Reaches, Root, Server, Under, Up, World, cases_eq}
use Rattle.replication_laws.proofs.Prelude.{chain_meets, chain_on, eq-eqb, eqb-false, eqb-true, length-le_from_distinct_below, list_any, ne_eqb}
use Rattle.replication_laws.proofs.Prelude.{not_self, or_cases, or_parts, or_right, same_Some, server_at, slice_get_within, source_of, sources}
use Rattle.server_words.proofs.OrchBase.Lists.{all-apart}

-- the chains if one server lost its source
pub Grounded-cut : (up up' : ℕ → Option ℕ) (n : ℕ) → up' n ≡ None → ((x : ℕ) → (x ≡ n → ⊥) → up' x ≡ up x) → (x : ℕ) → Grounded up x → Grounded up' x
Grounded-cut up up' n none others x (Root x' root) =
    elim (cases_eq x n) [ inl here ↦ Root x (ap up' here ∙ none) | inr apart ↦ Root x (others x apart ∙ root) ]
Grounded-cut up up' n none others x (Under x' m e g) =
    let above = Grounded-cut up up' n none others m g in
    elim (cases_eq x n) [ inl here ↦ Root x (ap up' here ∙ none) | inr apart ↦ Under x m (others x apart ∙ e) above ]

-- a chain that a walk doesn't find to meet a server ends, whatever the source of that server is
pub Grounded-apart : (up up' : ℕ → Option ℕ) (n : ℕ) → ((x : ℕ) → (x ≡ n → ⊥) → up' x ≡ up x) → (k x : ℕ) → chain_meets up k x n ≡ false → Grounded up' x
Grounded-apart up up' n others zero x h = cc
Grounded-apart up up' n others (suc k) x h = go (up x) refl (or_parts (x == n) _ h) (λ m. Grounded-apart up up' n others k m)
  where
    go : (o : Option ℕ) → up x ≡ o → ((x == n) ≡ false) × (chain_on (λ m. chain_meets up k m n) (up x) ≡ false) → ((m : ℕ) → chain_meets up k m n ≡ false → Grounded up' m) → Grounded up' x
    go None e parts more = Root x (others x (eqb-false x n parts.0) ∙ e)
    go (Some m) e parts more =
        Under x m (others x (eqb-false x n parts.0) ∙ e) (more m (subst (λ (o : Option ℕ). chain_on (λ y. chain_meets up k y n) o ≡ false) e parts.1))

-- the chains if one server has another source, whose own chain ends
pub Grounded-joined : (up up' : ℕ → Option ℕ) (n to : ℕ) → up' n ≡ Some to → ((x : ℕ) → (x ≡ n → ⊥) → up' x ≡ up x) → Grounded up' to → (x : ℕ) → Grounded up x → Grounded up' x
Grounded-joined up up' n to joined others above x (Root x' root) =
    elim (cases_eq x n) [ inl here ↦ Under x to (ap up' here ∙ joined) above | inr apart ↦ Root x (others x apart ∙ root) ]
Grounded-joined up up' n to joined others above x (Under x' m e g) =
    let rest = Grounded-joined up up' n to joined others above m g in
    elim (cases_eq x n) [ inl here ↦ Under x to (ap up' here ∙ joined) above | inr apart ↦ Under x m (others x apart ∙ e) rest ]

Reaches-then : (up : ℕ → Option ℕ) (x y m : ℕ) → Reaches up x y → up x ≡ Some m → Reaches up m y
Reaches-then up x y m Here h = Up x m h Here
Reaches-then up x y m (Up y' z e r) h = Up y z e (Reaches-then up x z m r h)

-- no chain that ends comes back to its start
pub Grounded-no_cycle : (up : ℕ → Option ℕ) (x m : ℕ) → Grounded up x → up x ≡ Some m → Reaches up x m → ⊥
Grounded-no_cycle up x m (Root x' none) h r = cc
Grounded-no_cycle up x m (Under x' k e g) h r =
    let same : k ≡ m = same_Some k m (sym e ∙ h) in
    go m same r (λ z. Grounded-no_cycle up k z g)
  where
    go : (y : ℕ) → k ≡ y → Reaches up x y → ((z : ℕ) → up k ≡ Some z → Reaches up k z → ⊥) → ⊥
    go y same Here more = not_self up x (Under x k e g) (e ∙ ap Some same)
    go y same (Up y' z e' r') more =
        more z (ap up same ∙ e') (subst (λ (v : ℕ). Reaches up v z) (sym same) (Reaches-then up x z y r' (e ∙ ap Some same)))

-- the servers of a chain
chain : (up : ℕ → Option ℕ) (x : ℕ) → Grounded up x → List ℕ
chain up x (Root x' none) = x ∷ []
chain up x (Under x' m e g) = x ∷ chain up m g

-- who is on the chain is reached by it
chain-reaches : (up : ℕ → Option ℕ) (x q : ℕ) (g : Grounded up x) → list_any (eqb q) (chain up x g) ≡ true → Reaches up q x
unfolding chain
chain-reaches up x q (Root x' none) h =
    elim (or_cases (eqb q x) false h) [ inl same ↦ subst (λ (y : ℕ). Reaches up q y) (eqb-true q x same) Here | inr no_more ↦ cc ]
chain-reaches up x q (Under x' m e g) h =
    elim (or_cases (eqb q x) _ h) [
      | inl same ↦ subst (λ (y : ℕ). Reaches up q y) (eqb-true q x same) Here
      | inr more ↦ Up x m e (chain-reaches up m q g more)
    ]

chain-distinct : (up : ℕ → Option ℕ) (x : ℕ) (g : Grounded up x) → IsDistinct eqb (chain up x g)
unfolding chain IsDistinct
chain-distinct up x (Root x' none) = (tt, tt)
chain-distinct up x (Under x' m e g) = (
  all-apart x (chain up m g) (λ q h. ne_eqb x q (λ same. Grounded-no_cycle up x m (Under x m e g) e (subst (λ (y : ℕ). Reaches up y m) (sym same) (chain-reaches up m q g h)))),
  chain-distinct up m g,
)

-- a walk with as many steps as the chain has servers finds out
walk-finds : (up : ℕ → Option ℕ) (x n : ℕ) (g : Grounded up x) (k : ℕ) → length (chain up x g) ≤ k → chain_meets up k x n ≡ true → Reaches up n x
unfolding chain
walk-finds up x n (Root x' none) zero le h = absurd (omega arith)
walk-finds up x n (Root x' none) (suc k) le h =
    elim (or_cases (x == n) _ h) [
      | inl same ↦ subst (λ (y : ℕ). Reaches up y x) (eqb-true x n same) Here
      | inr more ↦ let no_more : false ≡ true = sym (ap (chain_on (λ m. chain_meets up k m n)) none) ∙ more in cc
    ]
walk-finds up x n (Under x' m e g) zero le h = absurd (omega arith)
walk-finds up x n (Under x' m e g) (suc k) le h =
    elim (or_cases (x == n) _ h) [
      | inl same ↦ subst (λ (y : ℕ). Reaches up y x) (eqb-true x n same) Here
      | inr more ↦ Up x m e (walk-finds up m n g k (omega arith) (sym (ap (chain_on (λ y. chain_meets up k y n)) e) ∙ more))
    ]

-- if every server of a chain has a number below k, a walk of k steps meets a server exactly if the chain comes to it
pub walk-true : (up : ℕ → Option ℕ) (x n k : ℕ) → Grounded up x → ((q : ℕ) → Reaches up q x → q < k) → chain_meets up k x n ≡ true → Reaches up n x
walk-true up x n k g below h =
    walk-finds up x n g k (length-le_from_distinct_below (chain up x g) k (chain-distinct up x g) (λ q on. below q (chain-reaches up x q g on))) h

pub walk-met : (up : ℕ → Option ℕ) (x n k : ℕ) → Reaches up n x → chain_meets up k x n ≡ true
walk-met up x n zero r = refl
walk-met up x n (suc k) Here = ap (λ b. b || chain_on (λ m. chain_meets up k m n) (up n)) (eq-eqb n n refl)
walk-met up x n (suc k) (Up x' m e r) = or_right (x == n) _ (ap (chain_on (λ y. chain_meets up k y n)) e ∙ walk-met up m n k r)

-- in a world with `Placed` the sources are servers
source-below : (w : World) → Placed w → (x m : ℕ) → sources w x ≡ Some m → m < length w.servers
source-below w placed x m e = go (server_at w x) refl e
  where
    go : (o : Option Server) → server_at w x ≡ o → source_of o ≡ Some m → m < length w.servers
    go None at from = cc
    go (Some r) at from = let source = placed.logging x m r at from in slice_get_within w.servers m source.0 source.1

-- and so is who has one
replica-below : (w : World) (x m : ℕ) → sources w x ≡ Some m → x < length w.servers
replica-below w x m e = go (server_at w x) refl e
  where
    go : (o : Option Server) → server_at w x ≡ o → source_of o ≡ Some m → x < length w.servers
    go None at from = cc
    go (Some r) at from = slice_get_within w.servers x r at

chain-below : (w : World) → Placed w → (q x : ℕ) → x < length w.servers → Reaches (sources w) q x → q < length w.servers
chain-below w placed q x lt Here = lt
chain-below w placed q x lt (Up x' m e r) = chain-below w placed q m (source-below w placed x m e) r

-- a server without a source is met at once or not at all
walk-root : (up : ℕ → Option ℕ) (x n k : ℕ) → 0 < k → up x ≡ None → chain_meets up k x n ≡ true → Reaches up n x
walk-root up x n zero some root h = absurd (omega arith)
walk-root up x n (suc k) some root h =
    elim (or_cases (x == n) _ h) [
      | inl same ↦ subst (λ (y : ℕ). Reaches up y x) (eqb-true x n same) Here
      | inr more ↦ let no_more : false ≡ true = sym (ap (chain_on (λ m. chain_meets up k m n)) root) ∙ more in cc
    ]

-- the walk by as many steps as there are servers is exact
pub walk-finds_all : (w : World) → Placed w → 0 < length w.servers → (n to : ℕ) → chain_meets (sources w) (length w.servers) to n ≡ true → Reaches (sources w) n to
walk-finds_all w placed some n to h = go (sources w to) refl
  where
    go : (o : Option ℕ) → sources w to ≡ o → Reaches (sources w) n to
    go None root = walk-root (sources w) to n (length w.servers) some root h
    go (Some m) from =
        walk-true (sources w) to n (length w.servers) (placed.grounded to) (λ q r. chain-below w placed q to (replica-below w to m from) r) h
