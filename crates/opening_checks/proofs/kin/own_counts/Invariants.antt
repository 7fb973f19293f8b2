use Rattle.std.proofs.Common.{◌≡◌, ℕ, ◌<◌, length, get_or}
use Rattle.opening_checks.proofs.Prelude.{count_own, history_at}
use Rattle.opening_checks.proofs.kin.own_counts.Given as goal

abbrev pub invariant-loop-n : goal.invariant-loop-n
invariant-loop-n l = (length l.own.items ≡ l.n) × ((o : ℕ) → o < l.n → get_or l.own.items o 0 ≡ count_own o (history_at l.servers o))
