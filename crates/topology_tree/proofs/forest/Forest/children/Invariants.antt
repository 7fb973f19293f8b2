use Rattle.std.proofs.Common.{◌≡◌, ◌++◌, reverse}
use Rattle.topology_tree.proofs.Prelude.{children_of}
use Rattle.topology_tree.proofs.Children.{end_of, children_below, IsLast}
use Rattle.topology_tree.proofs.forest.Forest.children.Given as goal

abbrev pub invariant-loop-next : goal.invariant-loop-next
invariant-loop-next l = record {
  last : IsLast l.self-inside.parents.items l.node l.next;
  so_far : l.children.items ++ reverse (children_below l.self-inside.parents.items l.node (end_of l.next)) ≡ reverse (children_of l.self-inside.parents.items l.node);
}

abbrev pub decreases-loop-next : goal.decreases-loop-next
decreases-loop-next l = end_of l.next
