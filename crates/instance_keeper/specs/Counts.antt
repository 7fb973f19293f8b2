-- The keys of a map whose keys are their values' places.
use Rattle.std.specs.Prelude.{◌≡◌, ℕ, ◌+◌, List, [], ◌∷◌, ⊤}

-- keys that count up
abbrev pub CountsUp : {X : Type 0} → ℕ → List (ℕ × X) → Type 0
CountsUp from [] = ⊤
CountsUp from (e ∷ es) = (e.0 ≡ from) × CountsUp (from + 1) es
