use Rattle.std.proofs.Common.{◌≡◌, drop}
use Rattle.opening_checks.proofs.Prelude.{falls_or_passes, first_bad_flush}
use Rattle.opening_checks.proofs.files.first_bad_flush.Given as goal

abbrev pub invariant-loop-k : goal.invariant-loop-k
invariant-loop-k l = (falls_or_passes l.bound l.least (drop l.k l.counts) ≡ falls_or_passes l.bound 0 l.counts)
    × (first_bad_flush l.bound l.least l.k (drop l.k l.counts) ≡ first_bad_flush l.bound 0 0 l.counts)
