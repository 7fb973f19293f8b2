use Rattle.std.proofs.Common.{◌≡◌, ◌-◌, length, slice_get}
use Rattle.scenario_servers.proofs.Prelude.{reached_from, root_in, source_in}
use Rattle.scenario_servers.proofs.labels.root_in.Given as goal

abbrev pub invariant-loop : goal.invariant-loop
invariant-loop l = reached_from (λ m. source_in (slice_get l.given m)) (length l.given - l.counter) l.at ≡ root_in l.given l.n
