use Rattle.std.proofs.Common.{◌≡◌, map, take}
use Rattle.book_views.proofs.Prelude.{source_node}
use Rattle.book_views.proofs.forest.source_nodes.Given as goal

abbrev pub invariant-loop-no : goal.invariant-loop-no
invariant-loop-no l = l.nodes.items ≡ map (source_node l.book) (take l.no-index l.order)
