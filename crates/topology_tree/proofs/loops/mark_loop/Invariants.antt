use Rattle.std.proofs.Common.{◌≡◌, ◌<◌, length, count_by, not}
use Rattle.topology_tree.proofs.Prelude.{above}
use Rattle.topology_tree.proofs.Marking.{Marking}
use Rattle.topology_tree.proofs.loops.mark_loop.Given as goal

abbrev pub invariant-loop-looped : goal.invariant-loop-looped
invariant-loop-looped l = record {
  len : length l.looped ≡ length l.sources;
  range : l.at < length l.sources;
  marking : Marking (above l.sources) l.fn.looped l.looped l.node l.at;
}

abbrev pub decreases-loop-looped : goal.decreases-loop-looped
decreases-loop-looped l = count_by not l.looped
