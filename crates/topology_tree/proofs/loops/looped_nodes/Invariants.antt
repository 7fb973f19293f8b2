use Rattle.topology_tree.proofs.Marking.{Sought}
use Rattle.topology_tree.proofs.loops.looped_nodes.Given as goal

abbrev pub invariant-loop-start : goal.invariant-loop-start
invariant-loop-start l = Sought l.sources l.walks.items l.looped.items l.start
