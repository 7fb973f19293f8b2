use Rattle.std.proofs.Common.{◌≡◌, ◌≤◌, length, take}
use Rattle.tasks.proofs.Prelude.{Follows, between, nodes_of, point, taken}
use Rattle.tasks.proofs.progress.take_turns.Given as goal

abbrev pub invariant-loop-i : goal.invariant-loop-i
invariant-loop-i g l = record {
  follows : Follows l.names (point (g.K.Keeper.kept l.fn.keeper) l.fn.engine) (take l.i l.turns) (point (g.K.Keeper.kept l.keeper) l.engine)
      (between (taken (g.O.Sink.written l.fn.out) (g.O.Sink.faults l.fn.out)) (taken (g.O.Sink.written l.out) (g.O.Sink.faults l.out))) l.progress;
  later : g.K.Keeper.faults l.fn.keeper ≤ g.K.Keeper.faults l.keeper;
  servers : length l.engine.world.servers ≡ length l.fn.engine.world.servers;
  nodes : nodes_of l.engine ≡ nodes_of l.fn.engine;
}
