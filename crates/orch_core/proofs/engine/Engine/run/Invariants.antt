use Rattle.std.proofs.Common.{◌≡◌, ◌≤◌, length, take}
use Rattle.orch_core.proofs.Prelude.{Ran, engine, nodes_of}
use Rattle.orch_core.proofs.engine.Engine.run.Given as goal

abbrev pub invariant-loop-t : goal.invariant-loop-t
invariant-loop-t g l = record {
  ran : Ran engine (g.K.Keeper.kept l.fn.keeper) l.fn.self (take l.t-index l.turns) (g.K.Keeper.kept l.keeper) l.self;
  later : g.K.Keeper.faults l.fn.keeper ≤ g.K.Keeper.faults l.keeper;
  servers : length l.self.world.servers ≡ length l.fn.self.world.servers;
  nodes : nodes_of l.self ≡ nodes_of l.fn.self;
}
