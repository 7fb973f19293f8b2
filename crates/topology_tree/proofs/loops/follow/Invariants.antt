use Rattle.std.proofs.Common.{◌≡◌, ◌<◌, length, IfSome, get_or, count_by, ◌==◌}
use Rattle.topology_tree.proofs.Prelude.{Walked}
use Rattle.topology_tree.proofs.loops.follow.Given as goal

abbrev pub invariant-loop-at : goal.invariant-loop-at
invariant-loop-at l = record {
  len : length l.walks ≡ length l.sources;
  begun : get_or l.walks l.start 0 ≡ l.start;
  walked : Walked l.sources l.fn.walks l.walks l.start l.at;
  within : IfSome l.at (λ x. x < length l.sources);
}

abbrev pub decreases-loop-at : goal.decreases-loop-at
decreases-loop-at l = count_by (λ x. x == length l.sources) l.walks
