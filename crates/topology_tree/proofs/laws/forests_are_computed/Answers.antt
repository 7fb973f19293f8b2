use Rattle.topology_tree.proofs.Computed.{forest-computed}
use Rattle.topology_tree.proofs.laws.forests_are_computed.Goals as goal

pub returns : goal.returns
returns c = forest-computed
