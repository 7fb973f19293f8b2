-- Looking for a server above itself, step by step.
use Rattle.std.proofs.Common.{◌≡◌, ℕ, ◌+◌, ◌-◌, ◌<◌, ap, ◌∙◌, Option, Some, None, arith, suc, true, false, ◌==◌, ◌||◌}
use Rattle.opening_checks.proofs.Prelude.{eq-eqb, is_reached, is_reached_on, ne_eqb}

-- one step of the walk that looks for n
pub is_reached-on : (up : ℕ → Option ℕ) (k i at n m : ℕ) → i < k → up at ≡ Some m → (m ≡ n → ⊥) → is_reached up (k - i) n at ≡ is_reached up (k - (i + 1)) n m
is_reached-on up k i at n m h some apart =
    let e : k - i ≡ suc (k - (i + 1)) = omega arith in
    rw e (ap (is_reached_on (λ x. x == n || is_reached up (k - (i + 1)) n x)) some ∙ ap (λ b. b || is_reached up (k - (i + 1)) n m) (ne_eqb m n apart))

pub is_reached-here : (up : ℕ → Option ℕ) (k i at n m : ℕ) → i < k → up at ≡ Some m → m ≡ n → is_reached up (k - i) n at ≡ true
is_reached-here up k i at n m h some same =
    let e : k - i ≡ suc (k - (i + 1)) = omega arith in
    rw e (ap (is_reached_on (λ x. x == n || is_reached up (k - (i + 1)) n x)) some ∙ ap (λ b. b || is_reached up (k - (i + 1)) n m) (eq-eqb m n same))

pub is_reached-ended : (up : ℕ → Option ℕ) (k i at n : ℕ) → i < k → up at ≡ None → is_reached up (k - i) n at ≡ false
is_reached-ended up k i at n h none =
    let e : k - i ≡ suc (k - (i + 1)) = omega arith in rw e (ap (is_reached_on (λ x. x == n || is_reached up (k - (i + 1)) n x)) none)

pub ruleset loop_steps = (is_reached-on, is_reached-here, is_reached-ended)
