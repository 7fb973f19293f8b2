-- A list without so many of its first.
use Rattle.std.proofs.Common.{◌≡◌, ℕ, ◌-◌, ◌<◌, List, [], ◌∷◌, drop, zero, suc, ap, arith}
use Rattle.recovery_turns.proofs.Prelude.{drop_all, remove}

pub one_less : {X : Type 0} (xs : List X) (n : ℕ) → 0 < n → drop (n - 1) (remove xs 0) ≡ drop n xs
one_less xs zero some = absurd (omega (arith, some))
one_less [] (suc n) some = drop_all (suc n - 1) [] (omega arith)
one_less (x ∷ xs) (suc n) some = ap (λ k. drop k xs) (less n)
  where
    less : (k : ℕ) → suc k - 1 ≡ k
    less k = omega arith
