use Rattle.topology_tree.proofs.Walking.{one-forest}
use Rattle.topology_tree.proofs.laws.sources_have_one_forest.Goals as goal

pub returns : goal.returns
returns c = one-forest
