use Rattle.std.proofs.Common.{◌≡◌, length}
use Rattle.failure_analysis.proofs.Counting.{AreTallied}
use Rattle.failure_analysis.proofs.tally.tallies.Given as goal

abbrev pub invariant-loop-place : goal.invariant-loop-place
invariant-loop-place l = record {
  count : length l.tallies.items ≡ length l.book.names;
  tallies : AreTallied l.tallies.items l.book.instances (length l.book.names) l.place-index;
}
