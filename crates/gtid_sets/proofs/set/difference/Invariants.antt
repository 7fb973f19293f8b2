use Rattle.std.proofs.Common.{length, ltb, not, ◌-◌, ◌≡◌, ℕ, ◌<◌, ◌≤◌, ◌+◌, ◌&&◌}
use Rattle.gtid_sets.proofs.Prelude.{All, AllWithin, high, low, on_line, point}
use Rattle.gtid_sets.proofs.set.difference.Given as goal

abbrev pub invariant-sweep : goal.invariant-sweep
invariant-sweep l = record {
  i_in : l.i ≤ length l.these;
  j_in : l.j ≤ length l.those;
  has : (x : ℕ) → on_line l.rest x ≡ (ltb x (point l.front.uuid l.front.n) && (on_line l.these x && not (on_line l.those x)));
  these : AllWithin (λ s. high s < point l.front.uuid l.front.n) l.these 0 l.i;
  those : AllWithin (λ s. high s < point l.front.uuid l.front.n) l.those 0 l.j;
  order : All (λ s. low s ≤ point l.front.uuid l.front.n) l.rest;
}

abbrev pub decreases-sweep : goal.decreases-sweep
decreases-sweep l = (length l.these - l.i) + (length l.those - l.j)
