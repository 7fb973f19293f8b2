-- The computed forest is the forest.
use Rattle.std.proofs.Common.{◌≡◌, ℕ, ◌<◌, ◌≤◌, Bool, true, false, cond, eqb, List, length, refl, sym, ◌∙◌, ap, subst, inl, inr, ◌⊎◌, ◌||◌, Option, Some, None, arith, zero, suc, ◌==◌}
use Rattle.topology_tree.proofs.Prelude.{ComesBack, Direct, Follows, Further, Grounded, IsClosed, IsForestOf, IsParent, Root, Under, above}
use Rattle.topology_tree.proofs.Prelude.{comes_back, eq-eqb, eqb-true, false≢true, forest_of, get_or-map-range_with_len, is_reached, is_reached_on}
use Rattle.topology_tree.proofs.Prelude.{length-le_from_distinct_below, length-map-range_with_len, or_cases, or_right, parent_of}
use Rattle.topology_tree.proofs.Chains.{next_leads, next_follows}
use Rattle.topology_tree.proofs.Levels.{chain, chain-follows, chain-distinct}
use Rattle.topology_tree.proofs.Walking.{one-forest}

-- it is the node, or comes to it by following, in so many steps
abbrev comes_to : (ℕ → Option ℕ) → ℕ → ℕ → Option ℕ → Bool
comes_to up node zero next = false
comes_to up node (suc steps) None = false
comes_to up node (suc steps) (Some next) = next == node || comes_to up node steps (up next)

comes_to-is : (up : ℕ → Option ℕ) (node steps from : ℕ) → comes_to up node steps (up from) ≡ is_reached up steps node from
comes_to-is up node zero from = refl
comes_to-is up node (suc k) from = go (up from) (λ m. comes_to-is up node k m)
  where
    go : (o : Option ℕ) → ((m : ℕ) → comes_to up node k (up m) ≡ is_reached up k node m) → comes_to up node (suc k) o ≡ is_reached_on (λ m. m == node || is_reached up k node m) o
    go None more = refl
    go (Some m) more = ap (λ b. m == node || b) (more m)

nowhere : (up : ℕ → Option ℕ) (n k : ℕ) → comes_to up n k None ≡ true → ⊥
nowhere up n zero h = false≢true h
nowhere up n (suc k) h = false≢true h

-- one step, and on
stepped : (up : ℕ → Option ℕ) (n m k : ℕ) (o : Option ℕ) → up m ≡ o → ((p : ℕ) → comes_to up n k (Some p) ≡ true → (p ≡ n) ⊎ Follows up n p) → comes_to up n k o ≡ true → Follows up n m
stepped up n m k None e later more = absurd (nowhere up n k more)
stepped up n m k (Some p) e later more = elim (later p more) [
  | inl same ↦ Direct m (e ∙ ap Some same)
  | inr rest ↦ Further m p e rest
]

-- what is come to is followed
comes_to-follows : (up : ℕ → Option ℕ) (n m k : ℕ) → comes_to up n k (Some m) ≡ true → (m ≡ n) ⊎ Follows up n m
comes_to-follows up n m zero h = absurd (false≢true h)
comes_to-follows up n m (suc k) h =
    elim (or_cases (eqb m n) (comes_to up n k (up m)) h) [
      | inl same ↦ inl (eqb-true m n same)
      | inr more ↦ inr (stepped up n m k (up m) refl (λ p h. comes_to-follows up n p k h) more)
    ]

-- sources, as far as a node
abbrev as_far_as : ℕ → (ℕ → Option ℕ) → ℕ → Option ℕ
as_far_as n up x = cond (eqb x n) None (up x)

cut-at : (n : ℕ) (up : ℕ → Option ℕ) → as_far_as n up n ≡ None
cut-at n up = ap (λ b. cond b None (up n)) (eq-eqb n n refl)

cut-other : (n : ℕ) (up : ℕ → Option ℕ) (x : ℕ) (b : Bool) → eqb x n ≡ b → (m : ℕ) → cond b None (up x) ≡ Some m → up x ≡ Some m
cut-other n up x true e m h = cc
cut-other n up x false e m h = h

-- a way to a node ends there
ends-there : (up : ℕ → Option ℕ) (n x : ℕ) → (x ≡ n) ⊎ Follows up n x → Grounded (as_far_as n up) x
ends-there up n x (inl same) = Root x (subst (λ (y : ℕ). as_far_as n up y ≡ None) (sym same) (cut-at n up))
ends-there up n x (inr way) = by_test x way (eqb x n) refl
  where
    by_test : (x : ℕ) → Follows up n x → (b : Bool) → eqb x n ≡ b → Grounded (as_far_as n up) x
    by_test x way true e = Root x (ap (λ b. cond b None (up x)) e)
    by_test x (Direct x' e) false t = Under x n (ap (λ b. cond b None (up x)) t ∙ e) (Root n (cut-at n up))
    by_test x (Further x' m e rest) false t = Under x m (ap (λ b. cond b None (up x)) t ∙ e) (by_test m rest (eqb m n) refl)

-- a way that has so many nodes comes there in as many steps
short-way : (up : ℕ → Option ℕ) (n x k : ℕ) (g : Grounded (as_far_as n up) x) → length (chain (as_far_as n up) x g) ≤ k → (x ≡ n) ⊎ Follows up n x → comes_to up n k (Some x) ≡ true
unfolding chain
short-way up n x zero (Root x' none) le way = absurd (omega (arith, le))
short-way up n x zero (Under x' m e g) le way = absurd (omega (arith, le))
short-way up n x (suc k) (Root x' none) le way = at_root (eqb x n) refl way
  where
    at_root : (b : Bool) → eqb x n ≡ b → (x ≡ n) ⊎ Follows up n x → (b || comes_to up n k (up x)) ≡ true
    at_root true e way = refl
    at_root false e (inl same) = absurd (false≢true (sym e ∙ eq-eqb x n same))
    at_root false e (inr (Direct x' step)) = let h : None ≡ Some n = sym none ∙ ap (λ b. cond b None (up x)) e ∙ step in cc
    at_root false e (inr (Further x' m step rest)) = let h : None ≡ Some m = sym none ∙ ap (λ b. cond b None (up x)) e ∙ step in cc
short-way up n x (suc k) (Under x' m e g) le way =
    or_right (eqb x n) (comes_to up n k (up x))
    (ap (λ o. comes_to up n k o) step ∙ short-way up n m k g (omega (arith, le)) (onward way))
  where
    step : up x ≡ Some m
    step = cut-other n up x (eqb x n) refl m e

    onward : (x ≡ n) ⊎ Follows up n x → (m ≡ n) ⊎ Follows up n m
    onward (inl same) =
        let h : None ≡ Some m = sym (cut-at n up) ∙ ap (as_far_as n up) (sym same) ∙ e in cc
    onward (inr rest) = next_follows up n x m step rest

cut-below : (ups : List (Option ℕ)) (n q x : ℕ) → IsClosed ups → Follows (as_far_as n (above ups)) q x → q < length ups
cut-below ups n q x closed (Direct x' e) = closed x q (cut-other n (above ups) x (eqb x n) refl q e)
cut-below ups n q x closed (Further x' m e rest) = cut-below ups n q m closed rest

returns-soon : (ups : List (Option ℕ)) (n m : ℕ) → IsClosed ups → above ups n ≡ Some m → ComesBack (above ups) n → comes_to (above ups) n (length ups) (Some m) ≡ true
returns-soon ups n m closed e back =
    short-way (above ups) n m (length ups) (ends-there (above ups) n m way)
    (length-le_from_distinct_below (chain (as_far_as n (above ups)) m (ends-there (above ups) n m way)) (length ups) (chain-distinct (as_far_as n (above ups)) m (ends-there (above ups) n m way))
    (λ q h. elim (chain-follows (as_far_as n (above ups)) m q (ends-there (above ups) n m way) h) [
      | inl same ↦ subst (λ (y : ℕ). y < length ups) (sym same) (closed n m e)
      | inr further ↦ cut-below ups n q m closed further
    ]))
    way
  where
    way : (m ≡ n) ⊎ Follows (above ups) n m
    way = next_leads (above ups) n m e back

comes_back-true : (ups : List (Option ℕ)) (n : ℕ) → comes_back ups n ≡ true → ComesBack (above ups) n
comes_back-true ups n h = at (above ups n) refl (length ups) (comes_to-is (above ups) n (length ups) n ∙ h)
  where
    at : (o : Option ℕ) → above ups n ≡ o → (k : ℕ) → comes_to (above ups) n k o ≡ true → ComesBack (above ups) n
    at None e zero h = absurd (false≢true h)
    at None e (suc k) h = absurd (false≢true h)
    at (Some m) e k h = elim (comes_to-follows (above ups) n m k h) [ inl same ↦ Direct n (e ∙ ap Some same) | inr rest ↦ Further n m e rest ]

comes-back_true : (ups : List (Option ℕ)) (n : ℕ) → IsClosed ups → ComesBack (above ups) n → comes_back ups n ≡ true
comes-back_true ups n closed back = sym (comes_to-is (above ups) n (length ups) n) ∙ at (above ups n) refl
  where
    starts : (o : Option ℕ) → above ups n ≡ o → Follows (above ups) n n → (m : ℕ) × (o ≡ Some m)
    starts o e (Direct n' step) = (n, sym e ∙ step)
    starts o e (Further n' m step rest) = (m, sym e ∙ step)

    at : (o : Option ℕ) → above ups n ≡ o → comes_to (above ups) n (length ups) o ≡ true
    at o e =
        let first = starts o e back in
        ap (comes_to (above ups) n (length ups)) first.1 ∙ returns-soon ups n first.0 closed (e ∙ first.1) back

IsParent-computed : (sources : List (Option ℕ)) (n : ℕ) → IsClosed sources → IsParent sources n (parent_of sources n)
IsParent-computed sources n closed = at (comes_back sources n) refl
  where
    at : (b : Bool) → comes_back sources n ≡ b → IsParent sources n (cond b None (above sources n))
    at true e = inl (comes_back-true sources n e, refl)
    at false e = inr (λ back. absurd (false≢true (sym e ∙ comes-back_true sources n closed back)), refl)

pub IsForestOf-computed : (sources : List (Option ℕ)) → IsClosed sources → IsForestOf sources (forest_of sources)
unfolding forest_of
IsForestOf-computed sources closed = record {
  nodes = length-map-range_with_len (parent_of sources) 0 (length sources);
  parent = λ n within. subst (IsParent sources n) (sym (get_or-map-range_with_len (parent_of sources) 0 (length sources) n n None within (omega arith))) (IsParent-computed sources n closed);
}

pub forest-computed : (sources forest : List (Option ℕ)) → IsClosed sources → IsForestOf sources forest → forest ≡ forest_of sources
forest-computed sources forest closed of = one-forest sources forest (forest_of sources) of (IsForestOf-computed sources closed)
