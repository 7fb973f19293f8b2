-- The places of the last poll-reads.
use Rattle.std.proofs.Common.{◌≡◌, ◌∙◌, ℕ, suc, ◌+◌, List, [], ◌∷◌, ◌++◌, length, ap, arith}
use Rattle.orch_core.proofs.Prelude.{Turn, last_poll, last_poll_from, polled_at}

-- one more turn
from-push : (n before place : ℕ) (ts : List Turn) (t : Turn) → last_poll_from n before place (ts ++ t ∷ []) ≡ polled_at n (last_poll_from n before place ts) (place + length ts + 1) t
from-push n before place [] t = let same : place + 1 ≡ place + 0 + 1 = omega arith in ap (λ k. polled_at n before k t) same
from-push n before place (u ∷ us) t =
    let same : place + 1 + length us + 1 ≡ place + suc (length us) + 1 = omega arith in
    from-push n (polled_at n before (place + 1) u) (place + 1) us t ∙ ap (λ k. polled_at n (last_poll_from n (polled_at n before (place + 1) u) (place + 1) us) k t) same

pub last_poll-push : (n : ℕ) (ts : List Turn) (t : Turn) → last_poll n (ts ++ t ∷ []) ≡ polled_at n (last_poll n ts) (length ts + 1) t
last_poll-push n ts t = from-push n 0 0 ts t ∙ (let same : 0 + length ts + 1 ≡ length ts + 1 = omega arith in ap (λ k. polled_at n (last_poll n ts) k t) same)
