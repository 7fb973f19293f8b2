use Rattle.scenario_servers.proofs.Prelude.{IsReadTo, whole_in}
use Rattle.scenario_servers.proofs.history.flush_list.Given as goal

abbrev pub invariant-loop-number : goal.invariant-loop-number
invariant-loop-number l = IsReadTo (λ n d. whole_in d) l.items l.number l.counts.items
