-- Which servers a job has in its hands, by what it did.
use Rattle.std.specs.Prelude.{◌≡◌, ℕ, ◌==◌, Bool, List, ◌∷◌, ◌++◌, All}
use Rattle.cause_laws.specs.Prelude.{Exchange, Job, Request, Threads, list_any}
use Rattle.cause_laws.specs.Prelude.asking

abbrev pub is_in_hands : Job → ℕ → Bool
is_in_hands j n = list_any (λ k. k.0 == n) j.hands

abbrev pub IsNoStart : ℕ → Exchange → Type 0
IsNoStart n e = e ≡ Request n asking.Start → ⊥

-- of these exchanges one stops the server, and none after it starts it; a start up to a coordinate is no start
pub record IsLeftStopped (n : ℕ) (es : List Exchange) : Type 0 where
  pub which : Threads
  pub before : List Exchange
  pub behind : List Exchange
  pub split : es ≡ before ++ Request n (asking.Stop which) ∷ behind
  pub none : All (IsNoStart n) behind
