-- The logs of sources as they are kept.
use Rattle.std.proofs.Common.{◌≡◌, ℕ, List, [], ◌∷◌, ◌⊎◌, inl, inr, sym, ap, ◌∙◌, refl, Option, Some, None, suc, zero, slice_get, slice_set}
use Rattle.opening_checks.proofs.Prelude.{AreLogs, Index, ServerInit, length-set, log_at, same_Some}

no_log : (l : Index) → Some l ≡ None → ⊥
no_log l e = cc

-- an element of a list with one that was put: that one, or an old one
put_cases : {X : Type 0} (xs : List X) (n : ℕ) (v : X) (j : ℕ) (y : X) → slice_get (slice_set xs n v) j ≡ Some y → ((j ≡ n) × (y ≡ v)) ⊎ (slice_get xs j ≡ Some y)
put_cases [] zero v j y h = inr h
put_cases (x ∷ xs) zero v zero y h = inl (refl, sym (same_Some v y h))
put_cases (x ∷ xs) (suc n) v (suc j) y h = elim (put_cases xs n v j y h) [ inl new ↦ inl (ap suc new.0, new.1) | inr old ↦ inr old ]
put_cases _ _ v _ y h = inr h

-- the log of a server joins those that are kept
pub AreLogs-put : (servers : List ServerInit) (logs : List (Option Index)) (n : ℕ) (l : Index) → AreLogs servers logs → l.log ≡ log_at servers n → AreLogs servers (slice_set logs n (Some l))
AreLogs-put servers logs n l are is = record { count = length-set logs n (Some l) ∙ are.count; each = each }
  where
    each : (k : ℕ) (m : Index) → slice_get (slice_set logs n (Some l)) k ≡ Some (Some m) → m.log ≡ log_at servers k
    each k m at = elim (put_cases logs n (Some l) k (Some m) at) [
      | inl new ↦ ap (λ (x : Index). x.log) (same_Some m l new.1) ∙ is ∙ ap (log_at servers) (sym new.0)
      | inr old ↦ are.each k m old
    ]

-- the log of a server is taken out
pub AreLogs-take : (servers : List ServerInit) (logs : List (Option Index)) (n : ℕ) (o : Option Index) → AreLogs servers logs → o ≡ None → AreLogs servers (slice_set logs n o)
AreLogs-take servers logs n o are none = record {
  count = length-set logs n o ∙ are.count;
  each = λ k m at. elim (put_cases logs n o k (Some m) at) [
    | inl new ↦ absurd (no_log m (new.1 ∙ none))
    | inr old ↦ are.each k m old
  ];
}
