use Rattle.job_plans.proofs.Prelude.{Compared}
use Rattle.job_plans.proofs.matching.matched_at.Given as goal

abbrev pub invariant-loop-k : goal.invariant-loop-k
invariant-loop-k l = Compared l.world l.r l.d l.every l.i l.j l.more l.k l.at
