use Rattle.std.proofs.Common.{◌≡◌, drop}
use Rattle.opening_checks.proofs.Prelude.{first_met, met_by}
use Rattle.opening_checks.proofs.flaws.first_met.Given as goal

abbrev pub invariant-loop-n : goal.invariant-loop-n
invariant-loop-n l = first_met (met_by l.servers l.test) l.n (drop l.n l.servers) ≡ first_met (met_by l.servers l.test) 0 l.servers
