use Rattle.std.proofs.Common.{◌≡◌, ◌*◌, ◌^◌, ◌≤◌, take}
use Rattle.gtid_sets.proofs.Prelude.{size}
use Rattle.gtid_sets.proofs.set.count_of.Given as goal

abbrev pub invariant-intervals : goal.invariant-intervals
invariant-intervals l = record {
  sum : l.count ≡ size (take l.interval-index l.intervals);
  fits : l.count ≤ l.interval-index * 2 ^ 63;
}
