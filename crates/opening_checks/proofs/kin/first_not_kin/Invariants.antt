use Rattle.std.proofs.Common.{◌≡◌, drop, true}
use Rattle.opening_checks.proofs.Prelude.{IsTable, first_met, lists_any, not_kin}
use Rattle.opening_checks.proofs.kin.first_not_kin.Given as goal

abbrev pub invariant-loop-n : goal.invariant-loop-n
invariant-loop-n l = (first_met (not_kin l.servers) l.n (drop l.n l.servers) ≡ first_met (not_kin l.servers) 0 l.servers) × (lists_any (drop l.n l.servers) ≡ true → IsTable l.servers l.n l.table)
