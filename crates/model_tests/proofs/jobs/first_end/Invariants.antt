use Rattle.operations.specs.Named.{IsNamed}
use Rattle.model_tests.proofs.jobs.first_end.Given as goal

abbrev pub invariant-loop-turn : goal.invariant-loop-turn
invariant-loop-turn l = IsNamed 3 l.job
