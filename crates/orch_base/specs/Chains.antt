-- Chains: from a number to the one above it, and on.
use Rattle.std.specs.Prelude.{◌≡◌, ◌==◌, ◌||◌, ℕ, Bool, false, Option, Some, None, zero, suc}

-- the chain above a number ends
pub data Grounded (up : ℕ → Option ℕ) : ℕ → Type 0 where
  Root : (n : ℕ) → up n ≡ None → Grounded up n
  Under : (n m : ℕ) → up n ≡ Some m → Grounded up m → Grounded up n

-- the chain above a number comes to b, in at least one step
pub data Follows (up : ℕ → Option ℕ) (b : ℕ) : ℕ → Type 0 where
  Direct : (a : ℕ) → up a ≡ Some b → Follows up b a
  Further : (a m : ℕ) → up a ≡ Some m → Follows up b m → Follows up b a

-- it is b, or the chain above it comes to b
pub data Reaches (up : ℕ → Option ℕ) (b : ℕ) : ℕ → Type 0 where
  Here : Reaches up b b
  Up : (a m : ℕ) → up a ≡ Some m → Reaches up b m → Reaches up b a

-- whether the chain above a number comes to n in at least one step, and at most so many
abbrev pub is_reached_on : (ℕ → Bool) → Option ℕ → Bool
is_reached_on go None = false
is_reached_on go (Some m) = go m

abbrev pub is_reached : (ℕ → Option ℕ) → ℕ → ℕ → ℕ → Bool
is_reached up zero n from = false
is_reached up (suc steps) n from = is_reached_on (λ m. m == n || is_reached up steps n m) (up from)
