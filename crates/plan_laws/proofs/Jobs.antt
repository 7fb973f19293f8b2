-- A job that joins those with lower numbers is found by its own.
use Rattle.std.proofs.Common.{◌≡◌, ◌∙◌, ℕ, ◌<◌, ◌≤◌, Bool, false, cond, List, [], ◌∷◌, ◌++◌, Some, None, ap, arith, ◌==◌}
use Rattle.plan_laws.proofs.Prelude.{Rise, Rise-within, Unended, eq-eqb, job_at, number_of}

lower : (a b high : ℕ) → a ≤ high → high < b → (a == b) ≡ false
lower a b high within beyond = grind arith

pub found-last : (low : ℕ) (jobs : List Unended) (high id : ℕ) (j : Unended) → Rise low jobs high → high < id → number_of j ≡ id → job_at (jobs ++ j ∷ []) id ≡ Some j
found-last low [] high id j rises beyond number = ap (λ (b : Bool). cond b (Some j) None) (eq-eqb (number_of j) id number)
found-last low (k ∷ ks) high id j rises beyond number =
    ap (λ (b : Bool). cond b (Some k) (job_at (ks ++ j ∷ []) id)) (lower (number_of k) id high (Rise-within (number_of k) ks high rises.1) beyond)
    ∙ found-last (number_of k) ks high id j rises.1 beyond number
