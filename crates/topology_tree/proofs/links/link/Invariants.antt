use Rattle.std.proofs.Common.{◌≡◌, ℕ, ◌<◌, length, Some}
use Rattle.topology_tree.proofs.Prelude.{above, last_below}
use Rattle.topology_tree.proofs.links.link.Given as goal

abbrev pub invariant-loop-node : goal.invariant-loop-node
invariant-loop-node l = record {
  last_len : length l.last_child ≡ length l.parents;
  earlier_len : length l.earlier ≡ length l.parents;
  last_of : (p : ℕ) → p < length l.parents → above l.last_child p ≡ last_below l.parents p l.node;
  earlier_of : (n p : ℕ) → n < l.node → above l.parents n ≡ Some p → above l.earlier n ≡ last_below l.parents p n;
}
