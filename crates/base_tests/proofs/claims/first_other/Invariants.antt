use Rattle.std.proofs.Common.{◌≡◌, length}
use Rattle.base_tests.proofs.claims.first_other.Given as goal

-- the nodes stay two
abbrev pub invariant-loop-n : goal.invariant-loop-n
invariant-loop-n l = length l.claims.remembered ≡ 2
