use Rattle.std.proofs.Common.{◌<◌, length}
use Rattle.topology_tree.proofs.Prelude.{Follows, above}
use Rattle.topology_tree.proofs.Levels.{level}
use Rattle.topology_tree.proofs.forest.Forest.below.Given as goal

abbrev pub invariant-loop-parent : goal.invariant-loop-parent
invariant-loop-parent l = record {
  range : l.at < length l.self-inside.parents.items;
  on : Follows (above l.self-inside.parents.items) l.b l.a → Follows (above l.self-inside.parents.items) l.b l.at;
  back : Follows (above l.self-inside.parents.items) l.b l.at → Follows (above l.self-inside.parents.items) l.b l.a;
}

abbrev pub decreases-loop-parent : goal.decreases-loop-parent
decreases-loop-parent l = level l.self-inside.parents.items l.at
