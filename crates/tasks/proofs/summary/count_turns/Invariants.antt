use Rattle.std.proofs.Common.{◌≡◌, ◌≤◌, length, take}
use Rattle.tasks.proofs.Prelude.{Tallies, nodes_of, point}
use Rattle.tasks.proofs.summary.count_turns.Given as goal

abbrev pub invariant-loop-t : goal.invariant-loop-t
invariant-loop-t g l = record {
  tallies : Tallies (point (g.K.Keeper.kept l.fn.keeper) l.fn.engine) (take l.t-index l.turns) (point (g.K.Keeper.kept l.keeper) l.engine) l.tally;
  later : g.K.Keeper.faults l.fn.keeper ≤ g.K.Keeper.faults l.keeper;
  servers : length l.engine.world.servers ≡ length l.fn.engine.world.servers;
  nodes : nodes_of l.engine ≡ nodes_of l.fn.engine;
}
