use Rattle.topology_tree.proofs.Walking.{edges-at}
use Rattle.topology_tree.proofs.forest.Forest.edges_have_no_loop.Goals as goal

pub returns-clause-edges : goal.returns-clause-edges
returns-clause-edges c = edges-at c.args.self.now
