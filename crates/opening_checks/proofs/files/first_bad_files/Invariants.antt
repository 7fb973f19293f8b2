use Rattle.std.proofs.Common.{◌≡◌, drop}
use Rattle.opening_checks.proofs.Prelude.{AreLogs, bad_files, first_met}
use Rattle.opening_checks.proofs.files.first_bad_files.Given as goal

abbrev pub invariant-loop-n : goal.invariant-loop-n
invariant-loop-n l = (first_met (bad_files l.servers) l.n (drop l.n l.servers) ≡ first_met (bad_files l.servers) 0 l.servers) × AreLogs l.servers l.logs
