use Rattle.std.proofs.Common.{ℕ, ◌≡◌, ◌≤◌, length}
use Rattle.orch_core.proofs.Prelude.{most_turns, nodes_of, recorder}
use Rattle.orch_core.proofs.Finishing.{Rounds}
use Rattle.orch_core.proofs.orch.Orch.finish.Given as goal

abbrev pub decreases-rounds : goal.decreases-rounds
decreases-rounds g l = most_turns l.self.state.jobs l.job

abbrev pub invariant-rounds : goal.invariant-rounds
invariant-rounds g l = record {
  rounds : (k : ℕ) × Rounds recorder (λ r. r.state) (g.K.Keeper.kept l.fn.keeper) l.fn.self l.job (g.K.Keeper.kept l.keeper) l.self k;
  later : g.K.Keeper.faults l.fn.keeper ≤ g.K.Keeper.faults l.keeper;
  servers : length l.self.state.world.servers ≡ length l.fn.self.state.world.servers;
  nodes : nodes_of l.self.state ≡ nodes_of l.fn.self.state;
}
