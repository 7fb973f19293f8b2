-- How a log is laid in one pass over a history and its flush points.
use Rattle.std.specs.Prelude.{◌≡◌, ℕ, ◌<◌, ◌==◌, ◌&&◌, Bool, true, nat_le, List, [], ◌∷◌, count_by}

-- the counts rise or stay, from a least one on
abbrev pub rises_from : ℕ → List ℕ → Bool
rises_from least [] = true
rises_from least (k ∷ ks) = nat_le least k && rises_from k ks

-- both lists have the same flush points after a count
pub record SameBehind (count : ℕ) (flushes left : List ℕ) : Type 0 where
  pub each : (j : ℕ) → count < j → count_by (λ k. k == j) left ≡ count_by (λ k. k == j) flushes
