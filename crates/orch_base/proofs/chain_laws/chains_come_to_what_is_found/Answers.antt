use Rattle.orch_base.proofs.Chains.{Reaches-by_cases, Reaches-follows, follows-reached, reached-follows}
use Rattle.orch_base.proofs.chain_laws.chains_come_to_what_is_found.Goals as goal

pub returns : goal.returns
returns c = record {
  cases = Reaches-by_cases;
  further = Reaches-follows;
  tested = reached-follows;
  found = follows-reached;
}
