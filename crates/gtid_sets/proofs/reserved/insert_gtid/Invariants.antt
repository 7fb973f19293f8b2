use Rattle.std.proofs.Common.{◌≡◌, length, vec_capacity}
use Rattle.gtid_sets.proofs.Inserts.{IsOnTheWay}
use Rattle.gtid_sets.proofs.reserved.insert_gtid.Given as goal

abbrev pub invariant-absorb : goal.invariant-absorb
invariant-absorb l = record {
  way : IsOnTheWay l.fn.gtid.uuid l.fn.gtid.n l.at l.initial.intervals.items l.intervals.items l.whole;
  room : vec_capacity l.intervals ≡ vec_capacity l.initial.intervals;
}

abbrev pub decreases-absorb : goal.decreases-absorb
decreases-absorb l = length l.intervals.items
