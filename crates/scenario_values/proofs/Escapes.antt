-- Bytes of a key, escaped one after the other.
use Rattle.std.proofs.Common.{◌≡◌, ℕ, ◌+◌, ◌<◌, zero, suc, List, [], ◌∷◌, ◌++◌, length, drop, get_or, refl, ◌∙◌, arith, append_assoc, add-one}
use Rattle.scenario_values.proofs.Prelude.{escaped, escaped_byte}

rest_at : (bs : List ℕ) (n : ℕ) → n < length bs → escaped (drop n bs) ≡ escaped_byte (get_or bs n 0) ++ escaped (drop (suc n) bs)
rest_at [] n lt = absurd (omega arith)
rest_at (b ∷ bs) zero lt = refl
rest_at (b ∷ bs) (suc n) lt = rest_at bs n (omega arith)

-- one more byte is written
pub escaped_on : (bs : List ℕ) (n : ℕ) (before after all : List ℕ) → n < length bs → before ++ escaped (drop n bs) ≡ all
    → after ≡ before ++ escaped_byte (get_or bs n 0) → after ++ escaped (drop (n + 1) bs) ≡ all
escaped_on bs n before after all lt so_far step =
    rw (step, add-one) (append_assoc before (escaped_byte (get_or bs n 0)) (escaped (drop (suc n) bs)) ∙ rw (rest_at bs n lt) at so_far)
