use Rattle.std.proofs.Common.{◌≡◌, replicate}
use Rattle.failure_analysis.proofs.Prelude.{no_replicas}
use Rattle.failure_analysis.proofs.tally.no_tallies.Given as goal

abbrev pub invariant-loop : goal.invariant-loop
invariant-loop l = l.tallies.items ≡ replicate l.counter no_replicas
