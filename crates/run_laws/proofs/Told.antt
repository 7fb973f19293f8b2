-- What begins is the same for its lines, its entry and its tries, whatever values its hooks get.
use Rattle.std.proofs.Common.{◌≡◌, ℕ, ◌+◌, List, [], ◌∷◌, ap, refl, inl, inr, map}
use Rattle.run_laws.proofs.Prelude.{AreLinesOf, AreTries, Begins, BookState, Configuration, Entry, Left, Line, Recovery as KeptRecovery, Scan}
use Rattle.run_laws.proofs.Prelude.{after_begun, entries_of, with_told}

module _ (c : Configuration) (b : BookState) where
  abbrev all_told : List Begins → List Begins
  all_told xs = map (with_told c b) xs

  pub told-entries : (xs : List Begins) → entries_of (all_told xs) ≡ entries_of xs
  told-entries [] = refl
  told-entries (x ∷ xs) = ap (λ (es : List KeptRecovery). x.entry ∷ es) (told-entries xs)

  pub told-lines : (last : ℕ) (es : List Entry) (xs : List Begins) (ls : List Line) → AreLinesOf last es xs ls → AreLinesOf last es (all_told xs) ls
  told-lines last [] [] [] are = tt
  told-lines last [] [] (l ∷ ls) are = absurd are
  told-lines last [] (x ∷ xs) [] are = absurd are
  told-lines last [] (x ∷ xs) (l ∷ ls) are = absurd are
  told-lines last (e ∷ es) [] [] are = absurd are
  told-lines last (e ∷ es) (x ∷ xs) [] are = absurd are
  told-lines last (e ∷ es) [] (l ∷ ls) (refused, rest) = (refused, told-lines last es [] ls rest)
  told-lines last (e ∷ es) (x ∷ xs) (l ∷ ls) (inl (begun, rest)) = inl (record { failed = begun.failed; number = begun.number; told = begun.told }, told-lines (last + 1) es xs ls rest)
  told-lines last (e ∷ es) (x ∷ xs) (l ∷ ls) (inr (refused, rest)) = inr (refused, told-lines last es (x ∷ xs) ls rest)

  pub told-tries : (s : Scan) (at : Left) (es : List Entry) (xs : List Begins) (ls : List Line) → AreTries s at es xs ls → AreTries s at es (all_told xs) ls
  told-tries s at [] [] [] are = tt
  told-tries s at [] [] (l ∷ ls) are = absurd are
  told-tries s at [] (x ∷ xs) [] are = absurd are
  told-tries s at [] (x ∷ xs) (l ∷ ls) are = absurd are
  told-tries s at (e ∷ es) [] [] are = absurd are
  told-tries s at (e ∷ es) (x ∷ xs) [] are = absurd are
  told-tries s at (e ∷ es) [] (l ∷ ls) (refused, rest) = (refused, told-tries s at es [] ls rest)
  told-tries s at (e ∷ es) (x ∷ xs) (l ∷ ls) (inl (begun, rest)) =
      inl (record { passed = begun.passed; failed = begun.failed; number = begun.number; told = begun.told }, told-tries s (after_begun at x) es xs ls rest)
  told-tries s at (e ∷ es) (x ∷ xs) (l ∷ ls) (inr (refused, rest)) = inr (refused, told-tries s at es (x ∷ xs) ls rest)
