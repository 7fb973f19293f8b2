-- A chain that ends doesn't come back to its start.
use Rattle.std.proofs.Common.{◌≡◌, ◌∙◌, ℕ, false, refl, sym, ap, subst, inl, inr, ◌⊎◌, Option, Some, None}
use Rattle.read_back_laws.proofs.Prelude.{Direct, Follows, Further, Grounded, Root, Under, false_from_ne_true, is_reached, reached-follows, same_Some}

-- one step of a chain that comes to b
Follows-first : (up : ℕ → Option ℕ) (b a : ℕ) → Follows up b a → (m : ℕ) × (up a ≡ Some m) × ((m ≡ b) ⊎ Follows up b m)
Follows-first up b a (Direct x e) = (b, e, inl refl)
Follows-first up b a (Further x m e f) = (m, e, inr f)

-- and one step on
Follows-then : (up : ℕ → Option ℕ) (b m a : ℕ) → up b ≡ Some m → Follows up b a → Follows up m a
Follows-then up b m a h (Direct x e) = Further a b e (Direct b h)
Follows-then up b m a h (Further x k e f) = Further a k e (Follows-then up b m k h f)

not_below : (up : ℕ → Option ℕ) (n : ℕ) → Grounded up n → Follows up n n → ⊥
not_below up n (Root n' none) f =
    let first = Follows-first up n n f in
    let there : None ≡ Some first.0 = sym none ∙ first.1 in
    cc
not_below up n (Under n' m e g) f =
    let first = Follows-first up n n f in
    let same : first.0 ≡ m = same_Some first.0 m (sym first.1 ∙ e) in
    elim first.2 [
      | inl itself ↦ not_below up m g (Direct m (ap up (sym same ∙ itself) ∙ e))
      | inr further ↦ not_below up m g (subst (λ (x : ℕ). Follows up m x) same (Follows-then up n m first.0 e further))
    ]

pub never_back : (up : ℕ → Option ℕ) (steps n : ℕ) → Grounded up n → is_reached up steps n n ≡ false
never_back up steps n g = false_from_ne_true (is_reached up steps n n) (λ h. not_below up n g (reached-follows up steps n n h))
