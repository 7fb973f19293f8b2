-- Whether a server is below another is a test.
use Rattle.std.proofs.Common.{◌≡◌, ℕ, ◌<◌, ◌≤◌, Bool, true, false, List, length, refl, sym, ◌∙◌, ap, ◌||◌, ◌+◌, Option, arith, zero, suc, ◌==◌, ◌↔◌, ◌&&◌, IsTrue}
use Rattle.permission.proofs.Prelude.{Direct, Follows, Further, IsForest, above, eq-eqb, false≢true, is_reached, is_reached_on, level, level-above}
use Rattle.permission.proofs.Prelude.{level-below, or_left, or_right, reached-follows}

-- what is followed is reached, in as many steps as its level
pub reached-from : (ups : List (Option ℕ)) → IsForest ups → (n x k : ℕ) → Follows (above ups) n x → x < length ups → level ups x ≤ k → is_reached (above ups) k n x ≡ true
reached-from ups is n x k (Direct x' e) lt le = go k (level-above ups x n is.ends is.closed lt e) le
  where
    go : (k : ℕ) → level ups x ≡ level ups n + 1 → level ups x ≤ k → is_reached (above ups) k n x ≡ true
    go zero at le = absurd (omega (arith, at, le))
    go (suc k) at le = ap (is_reached_on (λ y. y == n || is_reached (above ups) k n y)) e ∙ or_left (n == n) (is_reached (above ups) k n n) (eq-eqb n n refl)
reached-from ups is n x k (Further x' m e rest) lt le =
    go (λ k le. reached-from ups is n m k rest (is.closed x m e) le) k (level-above ups x m is.ends is.closed lt e) le
  where
    go : ((k : ℕ) → level ups m ≤ k → is_reached (above ups) k n m ≡ true) → (k : ℕ) → level ups x ≡ level ups m + 1 → level ups x ≤ k
        → is_reached (above ups) k n x ≡ true
    go later zero at le = absurd (omega (arith, at, le))
    go later (suc k) at le =
        ap (is_reached_on (λ y. y == n || is_reached (above ups) k n y)) e ∙ or_right (m == n) (is_reached (above ups) k n m) (later k (omega (arith, at, le)))

-- a test with the same meaning is the same
pub same-test : (P : Type 0) (a b : Bool) → IsTrue a ↔ P → (P → b ≡ true) → (b ≡ true → P) → a ≡ b
same-test P true true a to from = refl
same-test P false false a to from = refl
same-test P true false a to from = sym (to (a.0 refl))
same-test P false true a to from = a.1 (from refl)

pub below-test : (ups : List (Option ℕ)) → IsForest ups → (n x : ℕ) (a : Bool) → x < length ups → IsTrue a ↔ Follows (above ups) n x
    → a ≡ is_reached (above ups) (length ups) n x
below-test ups is n x a lt means =
    same-test (Follows (above ups) n x) a (is_reached (above ups) (length ups) n x) means
    (λ way. reached-from ups is n x (length ups) way lt (omega (arith, level-below ups x is.ends is.closed lt)))
    (λ h. reached-follows (above ups) (length ups) n x h)

-- after the tests that both are servers
pub tested : (a b x y : Bool) → a ≡ true → b ≡ true → x ≡ y → x ≡ (a && b && y)
tested true true x y ea eb e = e
tested false b x y ea eb e = absurd (false≢true ea)
tested true false x y ea eb e = absurd (false≢true eb)
