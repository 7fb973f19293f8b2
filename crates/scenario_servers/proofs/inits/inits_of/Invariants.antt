use Rattle.std.proofs.Common.{◌≡◌, map}
use Rattle.scenario_servers.proofs.Prelude.{init_under}
use Rattle.scenario_servers.proofs.inits.inits_of.Given as goal

abbrev pub invariant-loop-one : goal.invariant-loop-one
invariant-loop-one l = l.inits.items ≡ map (λ p. init_under p.1 p.0) l.yielded
