use Rattle.std.proofs.Common.{ℕ, ◌≡◌, ◌≤◌, length}
use Rattle.orch_core.proofs.Prelude.{engine, most_turns, nodes_of, told_in}
use Rattle.orch_core.proofs.Finishing.{Rounds}
use Rattle.orch_core.proofs.engine.Engine.finish.Given as goal

abbrev pub decreases-rounds : goal.decreases-rounds
decreases-rounds g l = most_turns l.self.jobs l.job

abbrev pub invariant-rounds : goal.invariant-rounds
invariant-rounds g l = record {
  rounds : (k : ℕ) × Rounds engine (λ s. s) (g.K.Keeper.kept l.fn.keeper) l.fn.self l.job (g.K.Keeper.kept l.keeper) l.self k × (l.told ≡ told_in l.fn.self l.job k);
  later : g.K.Keeper.faults l.fn.keeper ≤ g.K.Keeper.faults l.keeper;
  servers : length l.self.world.servers ≡ length l.fn.self.world.servers;
  nodes : nodes_of l.self ≡ nodes_of l.fn.self;
}
