use Rattle.std.proofs.Common.{length, take, ◌-◌, ◌≡◌, ℕ, ◌≤◌, ◌+◌, ◌||◌}
use Rattle.gtid_sets.proofs.Prelude.{All, AllWithin, low, on_line}
use Rattle.gtid_sets.proofs.set.united.Given as goal

abbrev pub invariant-merge : goal.invariant-merge
invariant-merge l = record {
  i_in : l.i ≤ length l.these;
  j_in : l.j ≤ length l.those;
  has : (x : ℕ) → on_line l.both x ≡ (on_line (take l.i l.these) x || on_line (take l.j l.those) x);
  first : AllWithin (λ t. All (λ s. low s ≤ low t) l.both) l.these l.i (length l.these);
  second : AllWithin (λ t. All (λ s. low s ≤ low t) l.both) l.those l.j (length l.those);
}

abbrev pub decreases-merge : goal.decreases-merge
decreases-merge l = (length l.these - l.i) + (length l.those - l.j)
