use Rattle.std.proofs.Common.{◌≡◌, ◌++◌, take, filter_map}
use Rattle.asking_commands.specs.Trees.{node_line}
use Rattle.asking_commands.proofs.trees.push_nodes.Given as goal

abbrev pub invariant-loop-node : goal.invariant-loop-node
invariant-loop-node l = l.lines.items ≡ l.initial.lines.items ++ filter_map (node_line l.book) (take l.node-index l.nodes)
