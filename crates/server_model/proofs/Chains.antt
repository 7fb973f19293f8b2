-- Walks up the sources.
use Rattle.std.proofs.Common.{◌≡◌, ℕ, ◌+◌, ◌-◌, ◌<◌, true, false, sym, subst, ap, ◌||◌, Option, Some, None, arith, suc, ◌∙◌, ◌==◌}
use Rattle.server_model.proofs.Prelude.{Grounded, Root, Under, chain_meets, chain_on, eq-eqb, ne_eqb, same_Some}

-- one step of the walk
pub chain_meets-step : (up : ℕ → Option ℕ) (k i at n : ℕ) → i < k → chain_meets up (k - i) at n ≡ (at == n || chain_on (λ m. chain_meets up (k - (i + 1)) m n) (up at))
chain_meets-step up k i at n h = let e : k - i ≡ suc (k - (i + 1)) = omega arith in rw e

-- the walk is at the server that was to be met, has ended, or goes on
pub chain_meets-here : (up : ℕ → Option ℕ) (k i at n : ℕ) → i < k → at ≡ n → chain_meets up (k - i) at n ≡ true
chain_meets-here up k i at n h same = chain_meets-step up k i at n h ∙ ap (λ b. b || chain_on (λ m. chain_meets up (k - (i + 1)) m n) (up at)) (eq-eqb at n same)

pub chain_meets-ended : (up : ℕ → Option ℕ) (k i at n : ℕ) → i < k → (at ≡ n → ⊥) → up at ≡ None → chain_meets up (k - i) at n ≡ false
chain_meets-ended up k i at n h apart none =
    chain_meets-step up k i at n h ∙ ap (λ b. b || chain_on (λ m. chain_meets up (k - (i + 1)) m n) (up at)) (ne_eqb at n apart)
    ∙ ap (chain_on (λ m. chain_meets up (k - (i + 1)) m n)) none

pub chain_meets-on : (up : ℕ → Option ℕ) (k i at n m : ℕ) → i < k → (at ≡ n → ⊥) → up at ≡ Some m → chain_meets up (k - i) at n ≡ chain_meets up (k - (i + 1)) m n
chain_meets-on up k i at n m h apart some =
    chain_meets-step up k i at n h ∙ ap (λ b. b || chain_on (λ x. chain_meets up (k - (i + 1)) x n) (up at)) (ne_eqb at n apart)
    ∙ ap (chain_on (λ x. chain_meets up (k - (i + 1)) x n)) some

pub ruleset chain_steps = (chain_meets-here, chain_meets-ended, chain_meets-on)

-- no server is its own source
pub not_self : (up : ℕ → Option ℕ) (n : ℕ) → Grounded up n → up n ≡ Some n → ⊥
not_self up n (Root n' none) h = cc
not_self up n (Under n' m e g) h =
    let same : m ≡ n = same_Some m n (sym e ∙ h) in
    not_self up m g (subst (λ (k : ℕ). up k ≡ Some m) (sym same) e)
