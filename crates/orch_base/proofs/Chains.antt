-- Being reached, in its forms.
use Rattle.std.proofs.Common.{◌≡◌, ◌∙◌, ℕ, true, eqb, ◌||◌, ◌⊎◌, inl, inr, Option, Some, None, refl, ap, zero, suc, ◌==◌}
use Rattle.std.proofs.lemmas.Bool.{eq-eqb, eqb-true, or_cases, or_left, or_right, false≢true}
use Rattle.orch_base.specs.Chains.{Follows, Direct, Further, Reaches, Here, Up, is_reached, is_reached_on}

pub Reaches-by_cases : (up : ℕ → Option ℕ) (b a : ℕ) → Reaches up b a → (a ≡ b) ⊎ Follows up b a
Reaches-by_cases up b a Here = inl refl
Reaches-by_cases up b a (Up x m e r) = elim (Reaches-by_cases up b m r) [
  | inl same ↦ inr (Direct a (e ∙ ap Some same))
  | inr further ↦ inr (Further a m e further)
]

pub Reaches-follows : (up : ℕ → Option ℕ) (b a : ℕ) → Follows up b a → Reaches up b a
Reaches-follows up b a (Direct x e) = Up a b e Here
Reaches-follows up b a (Further x m e r) = Up a m e (Reaches-follows up b m r)

-- what is tested is so
pub reached-follows : (up : ℕ → Option ℕ) (steps n from : ℕ) → is_reached up steps n from ≡ true → Follows up n from
reached-follows up zero n from h = absurd (false≢true h)
reached-follows up (suc k) n from h = go (up from) refl h (λ m. reached-follows up k n m)
  where
    go : (o : Option ℕ) → up from ≡ o → is_reached_on (λ m. m == n || is_reached up k n m) o ≡ true → ((m : ℕ) → is_reached up k n m ≡ true → Follows up n m) → Follows up n from
    go None e more further = absurd (false≢true more)
    go (Some m) e more further = elim (or_cases (eqb m n) (is_reached up k n m) more) [
      | inl same ↦ Direct from (e ∙ ap Some (eqb-true m n same))
      | inr rest ↦ Further from m e (further m rest)
    ]

-- and what is so is found in so many steps
pub follows-reached : (up : ℕ → Option ℕ) (n from : ℕ) → Follows up n from → (steps : ℕ) × (is_reached up steps n from ≡ true)
follows-reached up n from (Direct x e) = (suc zero, ap (is_reached_on (λ m. m == n || is_reached up zero n m)) e ∙ or_left (n == n) (is_reached up zero n n) (eq-eqb n n refl))
follows-reached up n from (Further x m e r) =
    let more = follows-reached up n m r in
    (suc more.0, ap (is_reached_on (λ y. y == n || is_reached up more.0 n y)) e ∙ or_right (m == n) (is_reached up more.0 n m) more.1)
