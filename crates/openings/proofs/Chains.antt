-- Following sources, step by step.
use Rattle.std.proofs.Common.{◌≡◌, ℕ, ◌+◌, ◌-◌, ◌<◌, refl, ap, Option, Some, None, arith, suc, zero}
use Rattle.openings.proofs.Prelude.{follow_on, reached_from}

-- one step up
pub reached_from-on : (up : ℕ → Option ℕ) (k i at m : ℕ) → i < k → up at ≡ Some m → reached_from up (k - i) at ≡ reached_from up (k - (i + 1)) m
reached_from-on up k i at m h some = let e : k - i ≡ suc (k - (i + 1)) = omega arith in rw e (ap (follow_on (λ x. reached_from up (k - (i + 1)) x) at) some)

-- what has no source is reached from itself alone
pub reached_from-root : (up : ℕ → Option ℕ) (k at : ℕ) → up at ≡ None → reached_from up k at ≡ at
reached_from-root up zero at none = refl
reached_from-root up (suc k) at none = ap (follow_on (λ x. reached_from up k x) at) none

pub ruleset root_steps = (reached_from-on, reached_from-root)
