-- Leases, one after another.
use Rattle.std.proofs.Common.{◌≡◌, ℕ, ◌<◌, ◌≤◌, List, [], ◌∷◌, length, get_or, map, Option, zero, suc, refl, ap, arith, slice_set}
use Rattle.instance_keeper.proofs.Prelude.{freed}

-- without the leases of a job among the first servers
abbrev pub freed_below : ℕ → ℕ → List (Option ℕ) → List (Option ℕ)
freed_below job zero leases = leases
freed_below job (suc k) [] = []
freed_below job (suc k) (lease ∷ leases) = freed job lease ∷ freed_below job k leases

pub freed_at : (job k : ℕ) (leases : List (Option ℕ)) (d : Option ℕ) → get_or (freed_below job k leases) k d ≡ get_or leases k d
freed_at job zero leases d = refl
freed_at job (suc k) [] d = refl
freed_at job (suc k) (lease ∷ leases) d = freed_at job k leases d

pub freed_next : (job k : ℕ) (leases : List (Option ℕ)) (d : Option ℕ) → k < length leases → slice_set (freed_below job k leases) k (freed job (get_or leases k d)) ≡ freed_below job (suc k) leases
freed_next job k [] d within = absurd (omega (arith, within))
freed_next job zero (lease ∷ leases) d within = refl
freed_next job (suc k) (lease ∷ leases) d within = ap (λ (ls : List (Option ℕ)). freed job lease ∷ ls) (freed_next job k leases d (omega (arith, within)))

pub freed_all : (job k : ℕ) (leases : List (Option ℕ)) → length leases ≤ k → freed_below job k leases ≡ map (freed job) leases
freed_all job zero [] past = refl
freed_all job zero (lease ∷ leases) past = absurd (omega (arith, past))
freed_all job (suc k) [] past = refl
freed_all job (suc k) (lease ∷ leases) past = ap (λ (ls : List (Option ℕ)). freed job lease ∷ ls) (freed_all job k leases (omega (arith, past)))
