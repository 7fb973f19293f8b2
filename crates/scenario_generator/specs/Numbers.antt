-- Numbers that look random: a linear congruential sequence modulo 2^64, of which the leading bits are used. See Knuth,
-- "The Art of Computer Programming", 3.2.1. The multiplier and the increment are those of its MMIX programs.
use Rattle.std.specs.Prelude.{ℕ, ◌+◌, ◌*◌, ◌/◌, ◌%◌, ◌^◌, List, []}

-- the number that follows one
unfoldable pub next : ℕ → ℕ
next x = (x * 6364136223846793005 + 1442695040888963407) % 2 ^ 64

-- what a number gives below a bound
unfoldable pub below : ℕ → ℕ → ℕ
below bound x = x / 2 ^ 33 % bound

-- what was drawn, in order, and the number that the next draw goes on from
pub record Drawing (A : Type 0) : Type 0 where
  pub drawn : List A
  pub number : ℕ

-- nothing yet
abbrev pub none_drawn : {A : Type 0} → ℕ → Drawing A
none_drawn seed = record { drawn = []; number = seed }
