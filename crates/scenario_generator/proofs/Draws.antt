-- Numbers that are drawn.
use Rattle.std.proofs.Common.{◌≡◌, ◌+◌, ◌*◌, ◌%◌, ℕ}
use Rattle.scenario_generator.proofs.Prelude.{mod-add-mod, next}

-- the remainder of the product is taken first
pub next_wraps : (x : ℕ) → (x * 6364136223846793005 % 18446744073709551616 + 1442695040888963407) % 18446744073709551616 ≡ next x
unfolding next
next_wraps x = mod-add-mod (x * 6364136223846793005) 18446744073709551616 1442695040888963407
