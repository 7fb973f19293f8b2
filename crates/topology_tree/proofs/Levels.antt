-- how many steps it is from a node to its root
use Rattle.std.proofs.Common.{◌≡◌, ℕ, ◌+◌, ◌<◌, ◌≤◌, true, false, List, [], ◌∷◌, length, refl, sym, ◌∙◌, ap, subst, inl, inr, ◌⊎◌, Option, Some, None, arith, zero, suc, eqb}
use Rattle.topology_tree.proofs.Prelude.{Direct, Follows, Further, Grounded, IsClosed, IsDistinct, Root, Under, above}
use Rattle.topology_tree.proofs.Prelude.{eqb-true, length-le_from_distinct_below, list_any, ne_eqb, or_cases}
use Rattle.topology_tree.proofs.Chains.{Grounded-no_return}
use Rattle.orch_base.proofs.Lists.{all-apart}

-- the nodes from one to its root
unfoldable pub chain : (up : ℕ → Option ℕ) (x : ℕ) → Grounded up x → List ℕ
chain up x (Root x' none) = x ∷ []
chain up x (Under x' m e g) = x ∷ chain up m g

-- a node of the chain is the first or is reached from it
pub chain-follows : (up : ℕ → Option ℕ) (x q : ℕ) (g : Grounded up x) → list_any (eqb q) (chain up x g) ≡ true → (q ≡ x) ⊎ Follows up q x
unfolding chain
chain-follows up x q (Root x' none) h =
    elim (or_cases (eqb q x) false h) [ inl same ↦ inl (eqb-true q x same) | inr no_more ↦ cc ]
chain-follows up x q (Under x' m e g) h =
    elim (or_cases (eqb q x) _ h) [
      | inl same ↦ inl (eqb-true q x same)
      | inr more ↦ elim (chain-follows up m q g more) [
        | inl same ↦ inr (Direct x (e ∙ ap Some (sym same)))
        | inr further ↦ inr (Further x m e further)
      ]
    ]

pub chain-distinct : (up : ℕ → Option ℕ) (x : ℕ) (g : Grounded up x) → IsDistinct eqb (chain up x g)
unfolding chain IsDistinct
chain-distinct up x (Root x' none) = (tt, tt)
chain-distinct up x (Under x' m e g) = (
  all-apart x (chain up m g) (λ q h. ne_eqb x q (λ same.
      Grounded-no_return up x (Under x m e g)
      (elim (chain-follows up m q g h) [
        | inl here ↦ Direct x (e ∙ ap Some (sym here ∙ sym same))
        | inr further ↦ Further x m e (subst (λ (y : ℕ). Follows up y m) (sym same) further)
      ]))),
  chain-distinct up m g,
)

-- every node that is reached from a node in range is in range
pub Follows-below : (ups : List (Option ℕ)) (q x : ℕ) → IsClosed ups → Follows (above ups) q x → q < length ups
Follows-below ups q x closed (Direct x' e) = closed x q e
Follows-below ups q x closed (Further x' m e r) = Follows-below ups q m closed r

chain-length : (ups : List (Option ℕ)) (x : ℕ) (g : Grounded (above ups) x) → IsClosed ups → x < length ups → length (chain (above ups) x g) ≤ length ups
chain-length ups x g closed lt =
    length-le_from_distinct_below (chain (above ups) x g) (length ups) (chain-distinct (above ups) x g)
    (λ q h. elim (chain-follows (above ups) x q g h) [
      | inl same ↦ subst (λ (y : ℕ). y < length ups) (sym same) lt
      | inr further ↦ Follows-below ups q x closed further
    ])

-- the steps from a node to its root, as far as so many
abbrev one_more : (ℕ → ℕ) → Option ℕ → ℕ
one_more steps None = 0
one_more steps (Some m) = steps m + 1

abbrev steps_up : (ℕ → Option ℕ) → ℕ → ℕ → ℕ
steps_up up zero x = 0
steps_up up (suc most) x = one_more (steps_up up most) (up x)

-- the steps from a node to its root
unfoldable pub level : List (Option ℕ) → ℕ → ℕ
level ups x = steps_up (above ups) (length ups) x

steps-chain : (up : ℕ → Option ℕ) (x : ℕ) (g : Grounded up x) (most : ℕ) → length (chain up x g) ≤ most + 1 → steps_up up most x + 1 ≡ length (chain up x g)
unfolding chain
steps-chain up x (Root x' none) zero le = refl
steps-chain up x (Root x' none) (suc most) le = ap (λ o. one_more (steps_up up most) o + 1) none
steps-chain up x (Under x' m e g) zero le = absurd (no_room g (omega (arith, le)))
  where
    no_room : (g : Grounded up m) → length (chain up m g) ≤ 0 → ⊥
    no_room (Root m' none) h = omega (arith, h)
    no_room (Under m' k e g) h = omega (arith, h)
steps-chain up x (Under x' m e g) (suc most) le =
    let more : steps_up up most m + 1 ≡ length (chain up m g) = steps-chain up m g most (omega (arith, le)) in
    ap (λ o. one_more (steps_up up most) o + 1) e ∙ ap (λ (k : ℕ). k + 1) more ∙ omega arith

pub level-above : (ups : List (Option ℕ)) (x m : ℕ) → ((n : ℕ) → Grounded (above ups) n) → IsClosed ups → x < length ups → above ups x ≡ Some m → level ups x ≡ level ups m + 1
unfolding level chain
level-above ups x m ends closed lt e =
    let g : Grounded (above ups) m = ends m in
    let here : steps_up (above ups) (length ups) x + 1 ≡ suc (length (chain (above ups) m g)) =
    steps-chain (above ups) x (Under x m e g) (length ups) (omega (arith, chain-length ups x (Under x m e g) closed lt))
    in
    let there : steps_up (above ups) (length ups) m + 1 ≡ length (chain (above ups) m g) =
    steps-chain (above ups) m g (length ups) (omega (arith, chain-length ups m g closed (closed x m e)))
    in
    omega (arith, here, there)

pub level-below : (ups : List (Option ℕ)) (x : ℕ) → ((n : ℕ) → Grounded (above ups) n) → IsClosed ups → x < length ups → level ups x < length ups
unfolding level chain
level-below ups x ends closed lt =
    let here : steps_up (above ups) (length ups) x + 1 ≡ length (chain (above ups) x (ends x)) =
    steps-chain (above ups) x (ends x) (length ups) (omega (arith, chain-length ups x (ends x) closed lt))
    in
    omega (arith, here, chain-length ups x (ends x) closed lt)
