use Rattle.operations.specs.Named.{IsNamed}
use Rattle.model_tests.proofs.jobs.differing.Given as goal

abbrev pub invariant-loop-k : goal.invariant-loop-k
invariant-loop-k l = IsNamed 3 l.job
