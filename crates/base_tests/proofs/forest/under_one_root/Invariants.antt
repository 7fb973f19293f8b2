use Rattle.std.proofs.Common.{◌≡◌, length}
use Rattle.topology_tree.specs.Forests.{IsClosed}
use Rattle.base_tests.proofs.forest.under_one_root.Given as goal

abbrev pub invariant-loop-node : goal.invariant-loop-node
invariant-loop-node l = record {
  len : length l.sources.items ≡ l.node;
  closed : IsClosed l.sources.items;
}
