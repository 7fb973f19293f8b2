-- Levels, counted from the first and from the last.
use Rattle.std.proofs.Common.{◌≡◌, ℕ, ◌+◌, List, ◌++◌, zero, suc, refl, ◌∙◌, ap, append_assoc, add-one, codes}
use Rattle.report_text.specs.Told.{levels_text}

-- a level more after the others is one before them
level_behind : (k : ℕ) → levels_text k ++ codes "  " ≡ levels_text (suc k)
level_behind zero = refl
level_behind (suc k) = ap (λ (t : List ℕ). codes "  " ++ t) (level_behind k)

-- one more level is written
pub levels_go_on : (all before after : List ℕ) (k : ℕ) → before ≡ all ++ levels_text k → after ≡ before ++ codes "  " → after ≡ all ++ levels_text (k + 1)
levels_go_on all before after k so_far level =
    rw (level, so_far, add-one) (append_assoc all (levels_text k) (codes "  ") ∙ ap (λ (t : List ℕ). all ++ t) (level_behind k))
