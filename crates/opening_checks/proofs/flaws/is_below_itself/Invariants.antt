use Rattle.std.proofs.Common.{◌≡◌, ◌-◌, length}
use Rattle.opening_checks.proofs.Prelude.{below_itself, is_reached, sources}
use Rattle.opening_checks.proofs.flaws.is_below_itself.Given as goal

abbrev pub invariant-loop : goal.invariant-loop
invariant-loop l = is_reached (sources l.servers) (length l.servers - l.counter) l.n l.at ≡ below_itself l.servers l.n
