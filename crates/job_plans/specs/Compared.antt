-- Two logs that are compared after a mark that both keep.
use Rattle.std.specs.Prelude.{◌≡◌, ℕ, ◌+◌, ◌-◌, ◌≤◌, length, Some}
use Rattle.job_plans.specs.Prelude.{Server, ServerNo, World, alike, first_not, first_unlike, logged_by, server_at}

-- Up to entry k of the first server those of the second are like them. Entry `at` of the second, which has so many, is
-- in the place of entry k.
pub record Compared (w : World) (r d : ServerNo) (every i j more k at : ℕ) : Type 0 where
  pub behind : i + 1 ≤ k
  pub place : at ≡ (k + j) - i
  pub within : at ≤ more
  pub left : (x y : Server) → server_at w r.0 ≡ Some x → server_at w d.0 ≡ Some y
      → first_unlike every x y i j ≡ first_not (λ n. alike every (logged_by x n) (logged_by y ((n + j) - i))) k (length x.history.txns - k)
