use Rattle.std.proofs.Common.{◌≡◌, drop}
use Rattle.opening_checks.proofs.Prelude.{elsewhere, first_elsewhere, list_any}
use Rattle.opening_checks.proofs.flaws.first_elsewhere.Given as goal

abbrev pub invariant-loop-k : goal.invariant-loop-k
invariant-loop-k l = (list_any (elsewhere l.servers l.init) (drop l.k l.parts) ≡ list_any (elsewhere l.servers l.init) l.parts)
    × (first_elsewhere l.servers l.init l.k (drop l.k l.parts) ≡ first_elsewhere l.servers l.init 0 l.parts)
