use Rattle.std.proofs.Common.{◌≡◌, ◌++◌, drop}
use Rattle.gtid_sets.proofs.Prelude.{printed, texts}
use Rattle.gtid_sets.proofs.print.text_of.Given as goal

abbrev pub invariant-intervals : goal.invariant-intervals
invariant-intervals l = printed l.intervals ≡ l.text.items ++ texts l.before (drop l.interval-index l.intervals)
