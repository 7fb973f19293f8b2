use Rattle.std.proofs.Common.{length, ◌-◌, ◌<◌, ◌≤◌}
use Rattle.gtid_sets.proofs.Prelude.{AllWithin, high, point}
use Rattle.gtid_sets.proofs.set.first_reaching.Given as goal

abbrev pub invariant-halves : goal.invariant-halves
invariant-halves l = record {
  rises : l.from ≤ l.to;
  within : l.to ≤ length l.intervals;
  below : AllWithin (λ s. high s < point l.gtid.uuid l.gtid.n) l.intervals 0 l.from;
  above : AllWithin (λ s. point l.gtid.uuid l.gtid.n ≤ high s) l.intervals l.to (length l.intervals);
}

abbrev pub decreases-halves : goal.decreases-halves
decreases-halves l = l.to - l.from
