use Rattle.std.proofs.Common.{◌≡◌, filter}
use Rattle.std.specs.List.{flat_map, range_with_len}
use Rattle.book_views.specs.Forests.{book_forest}
use Rattle.asking_commands.specs.Trees.{is_root_of, tree_lines}
use Rattle.asking_commands.proofs.trees.topology.Given as goal

abbrev pub invariant-loop-node : goal.invariant-loop-node
invariant-loop-node l = l.lines.items ≡ flat_map (tree_lines l.book (book_forest l.book)) (filter (is_root_of l.book (book_forest l.book) l.label) (range_with_len 0 l.node))
