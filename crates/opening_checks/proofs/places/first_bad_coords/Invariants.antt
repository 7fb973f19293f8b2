use Rattle.std.proofs.Common.{◌≡◌, drop}
use Rattle.opening_checks.proofs.Prelude.{AreLogs, bad_coords, first_met}
use Rattle.opening_checks.proofs.places.first_bad_coords.Given as goal

abbrev pub invariant-loop-n : goal.invariant-loop-n
invariant-loop-n l = (first_met (λ k i. bad_coords l.servers i) l.n (drop l.n l.servers) ≡ first_met (λ k i. bad_coords l.servers i) 0 l.servers) × AreLogs l.servers l.logs
