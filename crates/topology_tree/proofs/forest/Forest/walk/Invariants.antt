use Rattle.std.proofs.Common.{◌≡◌, ◌++◌, length}
use Rattle.topology_tree.proofs.Prelude.{All, walk_of}
use Rattle.topology_tree.proofs.Walking.{pending_walk, InPlace}
use Rattle.topology_tree.proofs.forest.Forest.walk.Given as goal

abbrev pub invariant-loop-node : goal.invariant-loop-node
invariant-loop-node l = record {
  so_far : l.listed.items ++ pending_walk l.self l.pending.items ≡ walk_of l.self l.root;
  places : All (InPlace l.self l.root) l.pending.items;
}

abbrev pub decreases-loop-node : goal.decreases-loop-node
decreases-loop-node l = length (pending_walk l.self l.pending.items)
