use Rattle.std.proofs.Common.{◌≡◌, ◌++◌, drop}
use Rattle.regroup.proofs.Prelude.{climbed}
use Rattle.regroup.proofs.plans.climbed.Given as goal

abbrev pub invariant-loop-k : goal.invariant-loop-k
invariant-loop-k l = l.ops.items ++ climbed l.no (drop l.k l.passed) l.to ≡ climbed l.no l.passed l.to
