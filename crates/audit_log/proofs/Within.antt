-- What holds of each place within bounds.
use Rattle.std.proofs.Common.{◌≡◌, ℕ, ◌+◌, ◌≤◌, List, [], ◌∷◌, ◌++◌, length, get_or, arith, sym, subst, inl, inr}
use Rattle.audit_log.proofs.Prelude.{AllWithin, HoldsAt, cases_lt, get_or-append_seam, get_or_append_left, length-append}

module _ {X : Type 0} (P : X → Type 0) (xs : List X) where
  pub within-none : (low high : ℕ) → high ≤ low → AllWithin P xs low high
  within-none low high past k d from below = absurd (omega (arith, past, from, below))

  pub within-join : (low mid high : ℕ) → AllWithin P xs low mid → AllWithin P xs mid high → AllWithin P xs low high
  within-join low mid high first second k d from below = elim (cases_lt k mid) [ inl h ↦ first k d from h | inr h ↦ second k d h below ]

  pub within-one : (i : ℕ) → HoldsAt P xs i → AllWithin P xs i (i + 1)
  within-one i here k d from below = let e : i ≡ k = omega (arith, from, below) in subst (λ n. P (get_or xs n d)) e (here d)

  pub within-append : (ys : List X) (low high : ℕ) → high ≤ length xs → AllWithin P xs low high → AllWithin P (xs ++ ys) low high
  within-append ys low high short all k d from below =
      subst P (sym (get_or_append_left xs ys d k (omega (arith, short, below)))) (all k d from below)

  pub within-push : (y : X) (low : ℕ) → AllWithin P xs low (length xs) → P y → AllWithin P (xs ++ y ∷ []) low (length (xs ++ y ∷ []))
  within-push y low all last k d from below =
      let long = length-append xs (y ∷ []) in
      elim (cases_lt k (length xs)) [
        | inl h ↦ within-append (y ∷ []) low (length xs) (omega arith) all k d from h
        | inr h ↦
            let e : k ≡ length xs = omega (arith, h, below, long) in
            subst (λ n. P (get_or (xs ++ y ∷ []) n d)) (sym e) (subst P (sym (get_or-append_seam xs y [] d)) last)
      ]

pub within-weaker : {X : Type 0} (P Q : X → Type 0) (xs : List X) (low high : ℕ) → ((x : X) → P x → Q x) → AllWithin P xs low high → AllWithin Q xs low high
within-weaker P Q xs low high by all k d from below = by (get_or xs k d) (all k d from below)
