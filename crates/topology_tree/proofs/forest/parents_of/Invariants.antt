use Rattle.std.proofs.Common.{◌≡◌, ℕ, ◌<◌, length}
use Rattle.topology_tree.proofs.Prelude.{IsParent, above}
use Rattle.topology_tree.proofs.forest.parents_of.Given as goal

abbrev pub invariant-loop-node : goal.invariant-loop-node
invariant-loop-node l = record {
  len : length l.parents.items ≡ l.node;
  each : (n : ℕ) → n < l.node → IsParent l.sources n (above l.parents.items n);
}
