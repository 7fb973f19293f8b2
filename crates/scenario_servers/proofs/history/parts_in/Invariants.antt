use Rattle.scenario_servers.proofs.Prelude.{IsReadTo, part_in}
use Rattle.scenario_servers.proofs.history.parts_in.Given as goal

abbrev pub invariant-loop-number : goal.invariant-loop-number
invariant-loop-number l = IsReadTo (λ n d. part_in l.names d) l.items l.number l.parts.items
