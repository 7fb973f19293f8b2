use Rattle.scenario_generator.proofs.Promises.{counts_few, placed}
use Rattle.scenario_generator.proofs.Servers.{servers_from-count}
use Rattle.scenario_generator.proofs.laws.servers_stand_in_trees_of_ten.Goals as goal

pub returns : goal.returns
returns c = record {
  count = servers_from-count;
  placed = placed;
  few = counts_few;
}
