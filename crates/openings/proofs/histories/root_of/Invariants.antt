use Rattle.std.proofs.Common.{◌≡◌, ◌-◌, length}
use Rattle.openings.proofs.Prelude.{reached_from, root_of, sources}
use Rattle.openings.proofs.histories.root_of.Given as goal

abbrev pub invariant-loop : goal.invariant-loop
invariant-loop l = reached_from (sources l.servers) (length l.servers - l.counter) l.at ≡ root_of l.servers l.n
