use Rattle.std.proofs.Common.{◌≡◌, ◌≤◌, count_by, length}
use Rattle.scenario_turns.proofs.Prelude.{expanded, is_write}
use Rattle.scenario_turns.proofs.expansion.expanded.Given as goal

abbrev pub invariant-loop-one : goal.invariant-loop-one
invariant-loop-one l = record {
  meant : l.turns.items ≡ expanded l.ordered l.yielded;
  few : length l.turns.items ≤ 1000000;
  writes : l.writes ≡ count_by is_write l.turns.items;
}
